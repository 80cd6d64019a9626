-- a typed rule runs, keeps the types of the registers, and comes to what fits it
use Rattle.std.proofs.Common.{◌≡◌, true, ◌&&◌, List, [], ◌∷◌, Option, Some, None, IsSome, option_map, option_and_then, refl, sym, ap, ◌∙◌, subst}
use Rattle.std.specs.Prelude.{slice_get}
use Rattle.std.specs.List.{list_all}
use Rattle.std.proofs.lemmas.Bool.{false≢true}
use Rattle.call_form.specs.declared.Raw.{Raw}
use Rattle.call_form.specs.declared.Raw.TheVariants.{Echo, Discard}
use Rattle.idl_tree.specs.Faults.{method_named}
use Rattle.idl_tree.specs.declared.trees.Interface.{Interface}
use Rattle.idl_tree.specs.declared.trees.Body.{Body}
use Rattle.idl_tree.specs.declared.trees.Core.TheVariants.{Inline}
use Rattle.typed_value.specs.OfType.{fits, is_of_body}
use Rattle.typed_value.specs.declared.vals.Val.{Val}
use Rattle.typed_value.proofs.Distinct.{first_true, second_true}
use Rattle.typed_value.proofs.EntriesBack.{both}
use Rattle.sheet_rules.specs.Types.{body_typ, passes, is_of_typ}
use Rattle.sheet_rules.specs.Settings.{Setting}
use Rattle.sheet_rules.specs.Outcomes.{same_raw, same_kind}
use Rattle.sheet_rules.specs.Rules.{branch_is_typed, has_one_way, is_of_kind, one_kind, method_setting, rule_setting}
use Rattle.sheet_rules.specs.declared.forms.Register.{Register}
use Rattle.sheet_rules.specs.declared.forms.Rule.{Rule}
use Rattle.sheet_rules.specs.declared.forms.Branch.{Branch}
use Rattle.sheet_rules.specs.declared.forms.Ending.{Ending}
use Rattle.sheet_rules.specs.declared.forms.Ending.TheVariants as ending
use Rattle.sheet_step.specs.Levels.{are_within}
use Rattle.sheet_step.specs.Step.{done_is_within, step}
use Rattle.sheet_step.specs.declared.dones.Done.{Done}
use Rattle.sheet_step.specs.declared.dones.Done.TheVariants as outcome
use Rattle.step_laws.specs.Kinds.{ending_raw, ending_streams, raw_of, streams}
use Rattle.step_laws.specs.Fits.{Fits}
use Rattle.step_laws.specs.Given.{ThereIs}
use Rattle.step_laws.specs.Ready.{are_of_types, IsRuleOf}
use Rattle.step_laws.proofs.Parted.{some_same, passes_at, passing}
use Rattle.step_laws.proofs.FittingTypes.{there_some}
use Rattle.step_laws.proofs.ValueParts.{all_at}
use Rattle.step_laws.proofs.Outcomes.{Comes, IsKept, GoesWithin, branch_goes, one_taken}

-- outcomes of one kind have the same use of raw bytes, and stream or not
raw_is : (one other : Raw) → same_raw one other ≡ true → one ≡ other
raw_is Echo Echo h = refl
raw_is Discard Discard h = refl
raw_is one other h = absurd (false≢true h)

raw_itself : (raw : Raw) → same_raw raw raw ≡ true
raw_itself Echo = refl
raw_itself Discard = refl

kind_itself : (x : Ending) → same_kind x x ≡ true
kind_itself (ending.Reply a) = refl
kind_itself (ending.Stream r a b) = refl
kind_itself (ending.Upgrade raw a) = raw_itself raw

kind_raw : (one other : Ending) → same_kind one other ≡ true → ending_raw one ≡ ending_raw other
kind_raw (ending.Reply a) (ending.Reply b) h = refl
kind_raw (ending.Stream r a b) (ending.Stream q c d) h = refl
kind_raw (ending.Upgrade raw a) (ending.Upgrade other b) h = ap Some (raw_is raw other h)
kind_raw one other h = absurd (false≢true h)

kind_streams : (one other : Ending) → same_kind one other ≡ true → ending_streams one ≡ ending_streams other
kind_streams (ending.Reply a) (ending.Reply b) h = refl
kind_streams (ending.Stream r a b) (ending.Stream q c d) h = refl
kind_streams (ending.Upgrade raw a) (ending.Upgrade other b) h = refl
kind_streams one other h = absurd (false≢true h)

abbrev first_of : List Branch → Option Ending
first_of branches = option_map (λ (branch : Branch). branch.outcome) (slice_get branches 0)

module _ (s : Setting) (home : Interface) (home_is : slice_get s.interfaces s.scope ≡ Some home) (none : s.item ≡ None) (parameters : Val)
    (of : is_of_typ s.interfaces (body_typ s.scope s.input) parameters ≡ true) where
  -- what one of the branches comes to, whose outcome is of the kind of the first
  record GoesByKind (branches : List Branch) (values : List Val) (result : Done × List Val) : Type 0 where
    by : Ending
    raw : option_and_then ending_raw (first_of branches) ≡ ending_raw by
    streams : passes ending_streams (first_of branches) ≡ ending_streams by
    goes : GoesWithin s home home_is none parameters of by values result

  branches_go : (branches : List Branch) (values : List Val) → IsKept s home home_is none parameters of values
      → list_all (branch_is_typed s) branches ≡ true → one_kind branches ≡ true → has_one_way branches ≡ true
      → ThereIs (step home.name branches parameters values) (GoesByKind branches values)
  branches_go [] values kept typed kind way = absurd (false≢true way)
  branches_go (first ∷ branches) values kept typed kind way =
      let kinds = both (is_of_kind first first) _ (kind_itself first.outcome) kind in
      let branch = one_taken s home home_is none parameters of (is_of_kind first) (first ∷ branches) values kept typed kinds way in
      let result = branch_goes s home home_is none parameters of branch.value values kept branch.so.0 in
      record {
        value = result.value;
        is = rw (branch.is, result.is) refl;
        so = record {
          by = branch.value.outcome;
          raw = kind_raw first.outcome branch.value.outcome branch.so.1;
          streams = kind_streams first.outcome branch.value.outcome branch.so.1;
          goes = result.so;
        };
      }

module _ (interfaces : List Interface) (registers : List Register) (rule : Rule) (home : Interface) (input output : Body)
    (is : IsRuleOf interfaces registers rule home input output) (parameters : Val) (values : List Val)
    (of : is_of_body home input parameters ≡ true) (kept : are_of_types interfaces registers values ≡ true) where
  abbrev s : Setting
  s = method_setting interfaces registers rule.interface (input, output)

  setting_is : rule_setting interfaces registers rule ≡ Some s
  setting_is = ap (λ (o : Option Interface). option_map (method_setting interfaces registers rule.interface) (option_and_then (method_named rule.method) o)) is.home_is
      ∙ ap (option_map (method_setting interfaces registers rule.interface)) is.method_is

  parts : (list_all (branch_is_typed s) rule.branches && one_kind rule.branches) ≡ true
  parts = passes_at (λ (s : Setting). list_all (branch_is_typed s) rule.branches && one_kind rule.branches) (rule_setting interfaces registers rule) s
      setting_is is.typed

  given : is_of_typ interfaces (body_typ rule.interface input) parameters ≡ true
  given = passing (λ (scope : Interface). fits scope parameters [] (Inline input)) (slice_get interfaces rule.interface) home is.home_is of

  of_body : (body : Body) (v : Val) → is_of_typ interfaces (body_typ rule.interface body) v ≡ true → is_of_body home body v ≡ true
  of_body body v h = passes_at (λ (scope : Interface). fits scope v [] (Inline body)) (slice_get interfaces rule.interface) home is.home_is h

  fits_rule : (by : Ending) (done : Done) → raw_of rule ≡ ending_raw by → streams rule ≡ ending_streams by → Comes s home by done
      → done_is_within done ≡ true → Fits home output rule done
  fits_rule by (outcome.Replies replies) raw stream comes within = record {
    no_upgrade = raw ∙ comes.no_upgrade;
    not_none = comes.not_none;
    one = λ none. comes.one (sym stream ∙ none);
    typed = sym (all_at interfaces (body_typ rule.interface output) home replies is.home_is) ∙ comes.typed;
    within = within;
  }
  fits_rule by (outcome.Refused error v) raw stream comes within = record {
    name = comes.name;
    body = comes.body;
    is = comes.is;
    declared = comes.declared;
    typed = of_body comes.body v comes.typed;
    within = within;
  }
  fits_rule by (outcome.Upgrade use_of v) raw stream comes within = record {
    raw_is = raw ∙ comes.raw_is;
    typed = of_body output v comes.typed;
    within = within;
  }
  fits_rule by outcome.TooDeep raw stream comes within = tt

  record GoesWell (result : Done × List Val) : Type 0 where
    fits_it : Fits home output rule result.0
    keeps : are_of_types interfaces registers result.1 ≡ true
    levels : are_within values ≡ true → are_within result.1 ≡ true

  goes_well : ThereIs (step home.name rule.branches parameters values) GoesWell
  goes_well =
      let whole = branches_go s home is.home_is refl parameters given rule.branches values kept
      (first_true (list_all (branch_is_typed s) rule.branches) _ parts) (second_true (list_all (branch_is_typed s) rule.branches) _ parts) is.one_way in
      record {
        value = whole.value;
        is = whole.is;
        so = record {
          fits_it = fits_rule whole.so.by whole.value.0 whole.so.raw whole.so.streams whole.so.goes.goes.comes whole.so.goes.within;
          keeps = whole.so.goes.goes.kept;
          levels = whole.so.goes.levels;
        };
      }

  pub runs : IsSome (step home.name rule.branches parameters values)
  runs = there_some (step home.name rule.branches parameters values) goes_well.value goes_well.is

  result_well : (done : Done) (after : List Val) → step home.name rule.branches parameters values ≡ Some (done, after) → GoesWell (done, after)
  result_well done after told = subst GoesWell (some_same goes_well.value (done, after) (sym goes_well.is ∙ told)) goes_well.so

  pub keeps_types : (done : Done) (after : List Val) → step home.name rule.branches parameters values ≡ Some (done, after)
      → are_of_types interfaces registers after ≡ true
  keeps_types done after told = (result_well done after told).keeps

  pub keeps_levels : (done : Done) (after : List Val) → step home.name rule.branches parameters values ≡ Some (done, after)
      → are_within values ≡ true → are_within after ≡ true
  keeps_levels done after told = (result_well done after told).levels

  pub comes_to_fit : (done : Done) (after : List Val) → step home.name rule.branches parameters values ≡ Some (done, after) → Fits home output rule done
  comes_to_fit done after told = (result_well done after told).fits_it
