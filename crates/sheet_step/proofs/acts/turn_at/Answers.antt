use Rattle.std.proofs.Common.{◌≡◌, length, Some, option_map, refl, sym, ap, ◌∙◌}
use Rattle.std.specs.Prelude.{slice_get}
use Rattle.std.proofs.lemmas.Option.{slice_get_read}
use Rattle.sheet_step.specs.Undoing.{change_of, turned}
use Rattle.sheet_step.proofs.Changing.{register_there, change_is, change_back, placed_is, other_stays}
use Rattle.sheet_step.proofs.SmallDeeds.{small_kept, deep_left, all_kept, one_within}
use Rattle.sheet_step.specs.Levels.{is_within}
use Rattle.sheet_step.proofs.acts.turn_at.Goals as goal

pub returns-in-Ok-clause-ok : goal.returns-in-Ok-clause-ok
returns-in-Ok-clause-ok c =
    let rs = c.args.registers.now.items in
    let place = c.args.place in
    let change = change_of c.args.deed in
    let old = c.index_mut.result.now in
    let new = c.turn.new.val in
    let is : slice_get rs place ≡ Some old = slice_get_read rs (length rs) place old refl (register_there place change rs c.requires) c.index_mut.ensures.value in
    record {
      done = change_is place change rs old new is c.in-Ok.ensures.ok.done;
      back = change_back place (turned c.in-Ok.back) rs old new is c.in-Ok.ensures.ok.back;
      small = λ small h. all_kept rs place new h (small_kept c.args.deed old new (sym c.is_small-small.ensures ∙ small) (one_within rs place old h is) c.in-Ok.ensures.ok.done);
      deep = λ small. ap (option_map is_within) (placed_is rs place old new is)
          ∙ ap Some (deep_left c.args.deed old new (sym c.is_small-small.ensures ∙ small) c.in-Ok.ensures.ok.done);
      others = λ other apart. other_stays rs place other new apart;
    }
