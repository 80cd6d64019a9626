use Rattle.std.proofs.Common.{Ok, Err, refl, sym, subst, inr, ◌≡◌, ◌+◌}
use Rattle.turn_desk.specs.declared.faults.AskFault.TheVariants as fault
use Rattle.service_core.specs.Places.{place_of}
use Rattle.service_core.specs.Renders.{left_of}
use Rattle.service_desk.specs.Seats.{Seat}
use Rattle.service_desk.proofs.Answering.{asked_of, missed_of, is_come_to, err_told, told_misses, told_hears, told_renders}
use Rattle.service_desk.proofs.seats.Seated.ask.Goals as goal
use Rattle.service_desk.proofs.seats.Seated.ask.Goals.{in-Ok, in-Err}

pub returns-in_err-done-clause-misses : goal.returns-in_err-done-clause-misses
returns-in_err-done-clause-misses g c =
    let sheet = c.self.inside.service.now in
    let desk = c.self.inside.desk.now in
    let call = c.args.call.now in
    let request = c.args.request in
    let told = c.in_err-done.ensures in
    let why = (c.in_err-done.field-0).0 in
    let before : Seat = record { sheet = sheet; desk = desk; pass = c.self.inside.pass; made = c.self.inside.made } in
    let after : Seat = record { sheet = sheet; desk = desk; pass = c.ask.new.pass; made = c.self.inside.made } in
    err_told _ why _ c.from_residual.ensures
    (told_misses c.args.self.now before after call request c.self.view_is c.requires.placed why
    (missed_of sheet desk c.self.inside.pass c.ask.new.pass c.self.inside.made request (Err why) told.pass told.left told.asked told.worn told.good
    why refl told.others told.same told.bytes told.full))

pub finish-requires : goal.finish-requires
finish-requires g c =
    let sheet = c.self.inside.service.now in
    let desk = c.self.inside.desk.now in
    let call = c.args.call.now in
    let request = c.args.request in
    let told = c.in_ok-done.ensures in
    let done = c.in_ok-done.done in
    let before : Seat = record { sheet = sheet; desk = desk; pass = c.self.inside.pass; made = c.self.inside.made } in
    let after : Seat = record { sheet = sheet; desk = desk; pass = c.ask.new.pass; made = c.self.inside.made + 1 } in
    is_come_to sheet desk before after call request done refl refl c.self.invariant.0
    (subst (λ (s : Seat). place_of s.sheet call ≡ Ok request) (sym c.self.view_is) c.requires.placed)
    (asked_of sheet desk c.self.inside.pass c.ask.new.pass c.self.inside.made request (Ok done) told.pass told.left told.asked told.worn told.good
    done refl told.entry told.reply told.within)

pub returns-clause-hears : goal.returns-clause-hears
returns-clause-hears g c =
    let sheet = c.self.inside.service.now in
    let desk = c.self.inside.desk.now in
    let call = c.args.call.now in
    let request = c.args.request in
    let told = c.in_ok-done.ensures in
    let done = c.in_ok-done.done in
    let before : Seat = record { sheet = sheet; desk = desk; pass = c.self.inside.pass; made = c.self.inside.made } in
    let after : Seat = record { sheet = sheet; desk = desk; pass = c.ask.new.pass; made = c.self.inside.made + 1 } in
    let place = subst (λ (s : Seat). place_of s.sheet call ≡ Ok request) (sym c.self.view_is) c.requires.placed in
    elim c.match-finish.branch [
      | in-Ok w ↦ rw w.result-is
          (told_hears c.args.self.now before after call request c.self.view_is c.requires.placed done (left_of w.in-Ok.replies)
          (w.in-Ok.ensures.outcome request place)
          (asked_of sheet desk c.self.inside.pass c.ask.new.pass c.self.inside.made request (Ok done) told.pass told.left told.asked told.worn told.good
          done refl told.entry told.reply told.within))
      | in-Err w ↦ rw w.result-is tt
    ]

pub returns-clause-misses : goal.returns-clause-misses
returns-clause-misses g c =
    let sheet = c.self.inside.service.now in
    let desk = c.self.inside.desk.now in
    let call = c.args.call.now in
    let request = c.args.request in
    let told = c.in_ok-done.ensures in
    let done = c.in_ok-done.done in
    let before : Seat = record { sheet = sheet; desk = desk; pass = c.self.inside.pass; made = c.self.inside.made } in
    let after : Seat = record { sheet = sheet; desk = desk; pass = c.ask.new.pass; made = c.self.inside.made + 1 } in
    elim c.match-finish.branch [
      | in-Ok w ↦ rw w.result-is tt
      | in-Err w ↦ rw w.result-is
          (told_misses c.args.self.now before after call request c.self.view_is c.requires.placed fault.Memory
          (inr (inr (
            done,
            asked_of sheet desk c.self.inside.pass c.ask.new.pass c.self.inside.made request (Ok done) told.pass told.left told.asked told.worn told.good
                done refl told.entry told.reply told.within,
          ))))
    ]

pub returns-clause-renders : goal.returns-clause-renders
returns-clause-renders g c =
    let sheet = c.self.inside.service.now in
    let desk = c.self.inside.desk.now in
    let call = c.args.call.now in
    let request = c.args.request in
    let told = c.in_ok-done.ensures in
    let done = c.in_ok-done.done in
    let before : Seat = record { sheet = sheet; desk = desk; pass = c.self.inside.pass; made = c.self.inside.made } in
    let after : Seat = record { sheet = sheet; desk = desk; pass = c.ask.new.pass; made = c.self.inside.made + 1 } in
    let place = subst (λ (s : Seat). place_of s.sheet call ≡ Ok request) (sym c.self.view_is) c.requires.placed in
    elim c.match-finish.branch [
      | in-Ok w ↦ rw w.result-is
          (told_renders c.args.self.now before after call request c.self.view_is c.requires.placed done w.in-Ok.replies
          (w.in-Ok.ensures.renders request place)
          (asked_of sheet desk c.self.inside.pass c.ask.new.pass c.self.inside.made request (Ok done) told.pass told.left told.asked told.worn told.good
          done refl told.entry told.reply told.within))
      | in-Err w ↦ rw w.result-is tt
    ]
