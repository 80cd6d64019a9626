-- replies of the standard's errors, and of the interface that every service has, are declared
use Rattle.std.proofs.Common.{◌≡◌, true, Option, Some, None, codes, bytes_eq, refl, ap, ◌∙◌, inl, inr}
use Rattle.std.proofs.lemmas.Bool.{cases_Bool}
use Rattle.std.proofs.lemmas.Slice.Eq.{bytes_eq-Decides}
use Rattle.serde_json.specs.Data.{Data, null, boolean, number, string, array, object}
use Rattle.serde_json.specs.Find.{get}
use Rattle.idl_tree.specs.Names.{Bytes}
use Rattle.call_form.specs.declared.Call.{Call}
use Rattle.call_form.specs.declared.Reply.{Reply}
use Rattle.call_form.specs.declared.StdError.{StdError}
use Rattle.call_form.specs.declared.StdError.TheVariants.{InterfaceNotFound, MethodNotFound, MethodNotImplemented, InvalidParameter, ExpectedMore, PermissionDenied}
use Rattle.call_form.specs.StdErrors.{standard_of}
use Rattle.sheet_draft.specs.Outlines.{at_last_dot}
use Rattle.sheet_form.specs.declared.sheets.Contents.{Contents}
use Rattle.sheet_rules.specs.Types.{passes}
use Rattle.standard_interfaces.specs.Definitions.{service_tree}
use Rattle.standard_interfaces.specs.Readings.{reads_as_reply}
use Rattle.standard_interfaces.proofs.Replies.{one_reads, none_reads, info_reads}
use Rattle.service_core.specs.Descriptions.{service_name, names, info_of, description_of}
use Rattle.service_core.specs.Places.{plain, described, describes, unless_upgrade, own_reply}
use Rattle.service_laws.specs.Declared.{reads_at, is_declared, is_declared_by}

module _ (sheet : Contents) (call : Call) where
  pub standard_declared : (error : StdError) → is_declared sheet call (standard_of error) ≡ true
  standard_declared (InterfaceNotFound interface) = one_reads service_tree (codes "interface") interface refl
  standard_declared (MethodNotFound method) = one_reads service_tree (codes "method") method refl
  standard_declared (MethodNotImplemented method) = one_reads service_tree (codes "method") method refl
  standard_declared (InvalidParameter parameter) = one_reads service_tree (codes "parameter") parameter refl
  standard_declared ExpectedMore = none_reads service_tree
  standard_declared PermissionDenied = none_reads service_tree

  -- a reply to a method of `org.varlink.service`
  abbrev IsAt : Bytes → Type 0
  IsAt method = at_last_dot call.method ≡ Some (service_name, method)

  as_reply : (method : Bytes) (d : Data) → IsAt method → reads_as_reply service_tree method d ≡ true → is_declared_by sheet call None d ≡ true
  as_reply method d at reads = ap (passes (reads_at reads_as_reply sheet d)) at ∙ reads

  unless_declared : (reply : Reply) → is_declared sheet call reply ≡ true → is_declared sheet call (unless_upgrade call reply) ≡ true
  unless_declared reply is = elim (cases_Bool call.upgrade) [
    | inl upgrade ↦ rw upgrade (standard_declared (InvalidParameter (codes "upgrade")))
    | inr plain ↦ rw plain is
  ]

  described_declared : (name : Bytes) (found : Option Bytes) → IsAt (codes "GetInterfaceDescription") → is_declared sheet call (described name found) ≡ true
  described_declared name (Some text) at = as_reply (codes "GetInterfaceDescription") _ at (one_reads service_tree (codes "description") text refl)
  described_declared name None at = standard_declared (InterfaceNotFound name)

  describes_declared : (found : Option Data) → IsAt (codes "GetInterfaceDescription") → is_declared sheet call (describes sheet found) ≡ true
  describes_declared None at = standard_declared (InvalidParameter (codes "interface"))
  describes_declared (Some (string name)) at = described_declared name (description_of sheet name) at
  describes_declared (Some null) at = standard_declared (InvalidParameter (codes "interface"))
  describes_declared (Some (boolean _)) at = standard_declared (InvalidParameter (codes "interface"))
  describes_declared (Some (number _)) at = standard_declared (InvalidParameter (codes "interface"))
  describes_declared (Some (array _)) at = standard_declared (InvalidParameter (codes "interface"))
  describes_declared (Some (object _)) at = standard_declared (InvalidParameter (codes "interface"))

  is_at : (cut : Bytes × Bytes) (method : Bytes) → at_last_dot call.method ≡ Some cut → bytes_eq cut.0 service_name ≡ true → bytes_eq cut.1 method ≡ true → IsAt method
  is_at cut method at one other =
      at ∙ ap (λ (x : Bytes). Some (x, cut.1)) ((bytes_eq-Decides cut.0 service_name).0 one) ∙ ap (λ (y : Bytes). Some (service_name, y)) ((bytes_eq-Decides cut.1 method).0 other)

  pub own_declared : (cut : Bytes × Bytes) → at_last_dot call.method ≡ Some cut → bytes_eq cut.0 service_name ≡ true
      → is_declared sheet call (own_reply sheet call cut.1) ≡ true
  own_declared cut at here = elim (cases_Bool (bytes_eq cut.1 (codes "GetInfo"))) [
    | inl info ↦ rw info (unless_declared (plain (info_of sheet)) (as_reply (codes "GetInfo") _ (is_at cut (codes "GetInfo") at here info)
        (info_reads service_tree sheet.info.vendor sheet.info.product sheet.info.version sheet.info.url (names sheet))))
    | inr other ↦ rw other (elim (cases_Bool (bytes_eq cut.1 (codes "GetInterfaceDescription"))) [
      | inl asked ↦ rw asked (unless_declared (describes sheet (get (codes "interface") call.parameters))
          (describes_declared (get (codes "interface") call.parameters) (is_at cut (codes "GetInterfaceDescription") at here asked)))
      | inr none ↦ rw none (standard_declared (MethodNotFound call.method))
    ])
  ]
