use Rattle.std.proofs.Common.{ℕ, refl, ◌∙◌, arith, length-drop}
use Rattle.std.proofs.lemmas.List.{length-take}
use Rattle.session_core.specs.Heard.{refuses_by}
use Rattle.session_core.proofs.WentLemmas.{Went-same}
use Rattle.session_core.proofs.ServeLemmas.{Went-part, Halts-part}
use Rattle.session_core.proofs.serving.serve_piece.Goals as goal

pub parts-init : goal.parts-init
parts-init g c = record {
  within = omega arith;
  went = Went-same g.H.Hearer.tells _ _ _;
  ready = c.requires.ready;
  faults = refl;
  left = refl;
  same = g.met.H.Hearer.same_self _;
  unfinished = c.requires.unfinished;
  read_faults = refl;
}

pub returns-in-Some-clause-halts : goal.returns-in-Some-clause-halts
returns-in-Some-clause-halts g c =
    Halts-part g.H.Hearer.tells (refuses_by g.H.Hearer.misses g.H.Hearer.stop_of) _ _ _ c.args.piece.now c.parts.done c.feed-done.result _ _ _ _ _ _ c.in-Some.stop c.parts.invariant.went
    c.feed-done.ensures.run c.in-Some.ensures.halts

pub parts-preserved : goal.parts-preserved
parts-preserved g c = record {
  within = omega (arith, c.feed-done.ensures.took, c.parts.invariant.within, length-take {A = ℕ}, length-drop {A = ℕ});
  went = Went-part g.H.Hearer.tells _ _ _ _ c.args.piece.now c.parts.done c.feed-done.result _ _ _ _ _ _ c.parts.invariant.went
      c.feed-done.ensures.run c.in_default.ensures.went;
  ready = c.in_default.ensures.ready;
  faults = c.in_default.ensures.faults ∙ c.parts.invariant.faults;
  left = c.drain.ensures.other.0 ∙ c.parts.invariant.left;
  same = g.met.H.Hearer.same_on _ _ _ c.parts.invariant.same c.drain.ensures.same;
  unfinished = c.drain.ensures.unfinished;
  read_faults = c.drain.ensures.other.1 ∙ c.parts.invariant.read_faults;
}
