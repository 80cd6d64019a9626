use Rattle.std.proofs.Common.{◌≡◌, length, Some, option_map, refl, sym, ap, ◌∙◌}
use Rattle.std.specs.Ordering.{nat_cmp}
use Rattle.std.specs.declared.cmp.Ordering.TheVariants.{Equal}
use Rattle.std.specs.Cmp.Lexicographic.{slice_cmp}
use Rattle.std.proofs.lemmas.Map.Lookups.{exact_bytes}
use Rattle.std.proofs.lemmas.Option.{slice_get_read}
use Rattle.idl_tree.specs.Names.{Bytes}
use Rattle.typed_value.specs.declared.vals.Val.{Val}
use Rattle.sheet_step.proofs.Spots.{met}
use Rattle.sheet_step.proofs.entries.spot_of.Goals as goal

pub returns-in-Equal : goal.returns-in-Equal
returns-in-Equal c =
    let key = c.args.key.now in
    let es = c.args.entries.now in
    let i = c.loop-place.place in
    let entry = c.index-entries-place.result in
    let at : slice_cmp nat_cmp key entry.0 ≡ Equal = cc in
    record {
      here = ap (option_map (λ (e : Bytes × Val). e.0)) (slice_get_read es (length es) i entry refl c.loop-place-test.true c.index-entries-place.is)
          ∙ ap Some (sym (exact_bytes key entry.0 at));
      with_it = λ v. met key v es i entry c.loop-place-test.true c.index-entries-place.is at (c.loop-place.invariant v);
    }
