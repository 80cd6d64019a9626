-- a text that is UTF-8 and JSON
use Rattle.std.proofs.Common.{◌≡◌, ℕ, Bool, cond, List, Some, Ok, Err, ap, ◌∙◌, eq-eqb, IsUtf8}
use Rattle.std.proofs.lemmas.Str.{utf8_valid_len-IsUtf8}
use Rattle.serde_json.specs.Data.{Data}
use Rattle.serde_json.specs.Read.{read}
use Rattle.sheet_draft.specs.Sheets.{json_of, found_json}
use Rattle.sheet_draft.specs.declared.faults.DraftFault.TheVariants.{NotJson}

pub json_is : (text : List ℕ) (d : Data) → IsUtf8 text → read text ≡ Some d → json_of text ≡ Ok d
json_is text d is here =
    ap (λ (whole : Bool). cond whole (found_json (read text)) (Err NotJson)) (eq-eqb _ _ (utf8_valid_len-IsUtf8 text is))
    ∙ ap found_json here
