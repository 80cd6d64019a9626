-- words cut at their last dots
use Rattle.std.proofs.Common.{◌≡◌, ℕ, List, Option, Some, None, MatchOption, option_map, Bor, refl, sym, ap, ◌∙◌}
use Rattle.std.specs.Str.Pattern.{RFindsChar, SplitsAroundMatch}
use Rattle.sheet_draft.specs.Outlines.{at_last_dot}
use Rattle.sheet_draft.proofs.LastDots.{split_here, never_split}

pub cut_is : (word : List ℕ) (found : Option (Bor (List ℕ) × Bor (List ℕ)))
    → MatchOption found (RFindsChar 46 word None) (λ x. SplitsAroundMatch (RFindsChar 46) word x.0.now x.1.now)
    → option_map (λ (parts : Bor (List ℕ) × Bor (List ℕ)). (parts.0.now, parts.1.now)) found ≡ at_last_dot word
cut_is word None none = sym (never_split word none)
cut_is word (Some parts) is = rw (is.3, is.4) (sym (split_here word is.0 is.1 is.2.0 is.2.1))
