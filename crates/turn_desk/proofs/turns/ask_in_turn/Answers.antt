use Rattle.std.proofs.Common.{rules, ◌≡◌, sym, ap, ◌∙◌}
use Rattle.turn_desk.specs.Turns.{numbers_of}
use Rattle.turn_desk.proofs.Steps.{draws}
use Rattle.turn_desk.proofs.Answered.{front_of, adds, good_here, ends, all_good, ends_with, goes_on, replies, stays_within, not_made}
use Rattle.turn_desk.proofs.turns.ask_in_turn.Goals as goal

pub fetch_add-ticket-requires : goal.fetch_add-ticket-requires
fetch_add-ticket-requires g c = (search rules, search rules, draws g.O.Object.good g.O.Object.after g.O.Object.weigh g.L.Ledger.stands_for _ _ _ _ c.requires.idle.0 c.requires.left)

pub answer-book-requires : goal.answer-book-requires
answer-book-requires g c =
    good_here g.O.Object.good g.O.Object.after g.O.Object.weigh g.L.Ledger.stands_for c.args.shared.now.key.value (λ s q r h. (g.met.O.Object.lasting s q r h).1) _ c.take_turn-taken.result _ c.args.entry.request
    c.take_turn-taken.ensures.book c.requires.request

pub pass_on-requires-clause-book : goal.pass_on-requires-clause-book
pass_on-requires-clause-book g c =
    let turn = c.take_turn-taken.ensures.seat in
    let drew = c.fetch_add-ticket.ensures.2 in
    let number : c.args.entry.pass ≡ c.take_turn-taken.new.seat.me.0.number = c.requires.pass ∙ sym (ap (λ m. m.0.number) turn ∙ ap (λ v. v.number) drew.1) in
    let a = c.answer-book.ensures in (
      c.fetch_add-ticket.result,
      _,
      ap (λ m. m.0.stage) turn,
      adds g.O.Object.good g.O.Object.after g.O.Object.weigh g.L.Ledger.stands_for c.args.shared.now.key.value _ c.take_turn-taken.result c.answer-book.result.0 c.args.entry _ c.answer-book.result.1
          c.take_turn-taken.ensures.book.book number c.requires.request a.book a.same,
    )

pub returns-clause-good : goal.returns-clause-good
returns-clause-good g c =
    let a = c.answer-book.ensures in
    let seen = ends g.O.Object.good g.O.Object.after g.O.Object.weigh g.L.Ledger.stands_for c.args.shared.now.key.value _ c.take_turn-taken.result c.answer-book.result.0 c.args.entry c.answer-book.result.1 _ (ap (λ m. m.0.seen) c.pass_on.ensures.seat) a.book a.same in
    all_good g.O.Object.good g.O.Object.after g.O.Object.weigh g.L.Ledger.stands_for c.args.shared.now.key.value _ c.args.entry c.answer-book.result.1 _ c.take_turn-taken.ensures.book.good_all c.requires.request seen

pub returns-clause-entry : goal.returns-clause-entry
returns-clause-entry g c =
    let drew = c.fetch_add-ticket.ensures.2 in
    let a = c.answer-book.ensures in
    let seen = ends g.O.Object.good g.O.Object.after g.O.Object.weigh g.L.Ledger.stands_for c.args.shared.now.key.value _ c.take_turn-taken.result c.answer-book.result.0 c.args.entry c.answer-book.result.1 _ (ap (λ m. m.0.seen) c.pass_on.ensures.seat) a.book a.same in
    let front = front_of _ c.args.seat.now.me.0.seen _ _ (numbers_of c.args.seat.now.me.0) (ap (λ v. v.seen) drew.1) (ap numbers_of drew.1) c.take_turn-taken.ensures.book.front in
    ends_with g.O.Object.good g.O.Object.after g.O.Object.weigh g.L.Ledger.stands_for c.args.shared.now.key.value _ c.args.entry c.answer-book.result.1 _ c.args.seat.now.me.0.seen (numbers_of c.args.seat.now.me.0) front seen

pub returns-clause-others : goal.returns-clause-others
returns-clause-others g c =
    let drew = c.fetch_add-ticket.ensures.2 in
    let a = c.answer-book.ensures in
    let seen = ends g.O.Object.good g.O.Object.after g.O.Object.weigh g.L.Ledger.stands_for c.args.shared.now.key.value _ c.take_turn-taken.result c.answer-book.result.0 c.args.entry c.answer-book.result.1 _ (ap (λ m. m.0.seen) c.pass_on.ensures.seat) a.book a.same in
    let front = front_of _ c.args.seat.now.me.0.seen _ _ (numbers_of c.args.seat.now.me.0) (ap (λ v. v.seen) drew.1) (ap numbers_of drew.1) c.take_turn-taken.ensures.book.front in
    goes_on g.O.Object.good g.O.Object.after g.O.Object.weigh g.L.Ledger.stands_for c.args.shared.now.key.value _ c.args.entry c.answer-book.result.1 _ c.args.seat.now.me.0.seen (numbers_of c.args.seat.now.me.0) front seen

pub returns-clause-reply : goal.returns-clause-reply
returns-clause-reply g c =
    let a = c.answer-book.ensures in
    let seen = ends g.O.Object.good g.O.Object.after g.O.Object.weigh g.L.Ledger.stands_for c.args.shared.now.key.value _ c.take_turn-taken.result c.answer-book.result.0 c.args.entry c.answer-book.result.1 _ (ap (λ m. m.0.seen) c.pass_on.ensures.seat) a.book a.same in
    replies g.O.Object.good g.O.Object.after g.O.Object.weigh g.L.Ledger.stands_for c.args.shared.now.key.value g.O.Object.answer _ c.take_turn-taken.result c.args.entry c.answer-book.result.1 _ c.take_turn-taken.ensures.book.book a.reply seen

pub returns-clause-within : goal.returns-clause-within
returns-clause-within g c =
    let a = c.answer-book.ensures in
    let seen = ends g.O.Object.good g.O.Object.after g.O.Object.weigh g.L.Ledger.stands_for c.args.shared.now.key.value _ c.take_turn-taken.result c.answer-book.result.0 c.args.entry c.answer-book.result.1 _ (ap (λ m. m.0.seen) c.pass_on.ensures.seat) a.book a.same in
    stays_within g.O.Object.good g.O.Object.after g.O.Object.weigh g.L.Ledger.stands_for c.args.shared.now.key.value _ _ c.take_turn-taken.result c.args.entry c.answer-book.result.1 _ c.take_turn-taken.ensures.book.book a.within seen

pub returns-clause-fault : goal.returns-clause-fault
returns-clause-fault g c =
    let a = c.answer-book.ensures in
    let seen = ends g.O.Object.good g.O.Object.after g.O.Object.weigh g.L.Ledger.stands_for c.args.shared.now.key.value _ c.take_turn-taken.result c.answer-book.result.0 c.args.entry c.answer-book.result.1 _ (ap (λ m. m.0.seen) c.pass_on.ensures.seat) a.book a.same in
    not_made g.O.Object.good g.O.Object.after g.O.Object.weigh g.L.Ledger.stands_for c.args.shared.now.key.value _ _ c.take_turn-taken.result c.args.entry c.answer-book.result.1 _ c.take_turn-taken.ensures.book.book a.fault seen
