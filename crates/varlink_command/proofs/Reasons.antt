-- What is not want of memory is a reason.
use Rattle.std.proofs.Common.{◌≡◌, ◌≢◌, true, false, sym, ap, ◌∙◌}
use Rattle.sheet_form.specs.declared.faults.SheetFault.{SheetFault}
use Rattle.sheet_form.specs.declared.faults.SheetFault.TheVariants.{Memory}
use Rattle.varlink_command.specs.Sheets.{is_memory}

pub not_memory : (why : SheetFault) → is_memory why ≡ false → why ≢ Memory
not_memory why h = λ same. let no : true ≡ false = sym (ap is_memory same) ∙ h in absurd (cc)
