-- each reply of a resolver is declared
use Rattle.std.proofs.Common.{◌≡◌, true, [], ◌∷◌, Option, Some, None, codes, bytes_eq, refl, ap, ◌∙◌, inl, inr}
use Rattle.std.proofs.lemmas.Bool.{cases_Bool}
use Rattle.std.proofs.lemmas.Slice.Eq.{bytes_eq-Decides}
use Rattle.serde_json.specs.Data.{Data, null, boolean, number, string, array, object}
use Rattle.serde_json.specs.Find.{get}
use Rattle.idl_tree.specs.Names.{Bytes}
use Rattle.link_doors.specs.Addresses.{address_text}
use Rattle.link_doors.specs.declared.addresses.Address.{Address}
use Rattle.call_form.specs.declared.Call.{Call}
use Rattle.call_form.specs.declared.Reply.{Reply}
use Rattle.call_form.specs.declared.StdError.{StdError}
use Rattle.call_form.specs.declared.StdError.TheVariants.{InterfaceNotFound, MethodNotFound, MethodNotImplemented, InvalidParameter, ExpectedMore, PermissionDenied}
use Rattle.call_form.specs.StdErrors.{standard_of}
use Rattle.standard_interfaces.specs.Definitions.{service_tree, resolver_tree}
use Rattle.standard_interfaces.specs.Readings.{reads_as_reply}
use Rattle.standard_interfaces.proofs.Replies.{one_reads, none_reads, info_reads}
use Rattle.resolver_core.specs.Registries.{Entries, names, address_at, service_name, resolver_name}
use Rattle.resolver_core.specs.Words.{at_dot}
use Rattle.resolver_core.specs.Places.{interface_of, plain, info, describes, resolves, resolution, unless_upgrade, reply_by, of_parts, of_service, of_resolver, reply_of}
use Rattle.resolver_laws.specs.Declared.{reads_at, is_declared, RepliesAreDeclared}

standard_declared : (call : Call) (error : StdError) → is_declared call (standard_of error) ≡ true
standard_declared call (InterfaceNotFound interface) = one_reads service_tree (codes "interface") interface refl
standard_declared call (MethodNotFound method) = one_reads service_tree (codes "method") method refl
standard_declared call (MethodNotImplemented method) = one_reads service_tree (codes "method") method refl
standard_declared call (InvalidParameter parameter) = one_reads service_tree (codes "parameter") parameter refl
standard_declared call ExpectedMore = none_reads service_tree
standard_declared call PermissionDenied = none_reads service_tree

-- a reply to a method of one of the two interfaces
abbrev AsReply : Call → Data → Type 0
AsReply call d = reads_at reads_as_reply (at_dot call.method) d ≡ true

as_reply : (call : Call) (interface method : Bytes) (d : Data) → at_dot call.method ≡ Some (interface, method)
    → reads_at reads_as_reply (Some (interface, method)) d ≡ true → AsReply call d
as_reply call interface method d is reads = ap (λ (parts : Option (Bytes × Bytes)). reads_at reads_as_reply parts d) is ∙ reads

unless_declared : (call : Call) (reply : Reply) → is_declared call reply ≡ true → is_declared call (unless_upgrade call reply) ≡ true
unless_declared call reply is = elim (cases_Bool call.upgrade) [
  | inl upgrade ↦ rw upgrade (standard_declared call (InvalidParameter (codes "upgrade")))
  | inr plain ↦ rw plain is
]

abbrev IsAt : Call → Bytes → Bytes → Type 0
IsAt call interface method = at_dot call.method ≡ Some (interface, method)

description_declared : (call : Call) (found : Option Data) → IsAt call service_name (codes "GetInterfaceDescription") → is_declared call (describes found) ≡ true
description_declared call None at = standard_declared call (InvalidParameter (codes "interface"))
description_declared call (Some (string name)) at = elim (cases_Bool (bytes_eq name service_name)) [
  | inl service ↦ rw service (as_reply call service_name (codes "GetInterfaceDescription") _ at (one_reads service_tree (codes "description") _ refl))
  | inr other ↦ rw other (elim (cases_Bool (bytes_eq name resolver_name)) [
    | inl resolver ↦ rw resolver (as_reply call service_name (codes "GetInterfaceDescription") _ at (one_reads service_tree (codes "description") _ refl))
    | inr none ↦ rw none (standard_declared call (InterfaceNotFound name))
  ])
]
description_declared call (Some null) at = standard_declared call (InvalidParameter (codes "interface"))
description_declared call (Some (boolean _)) at = standard_declared call (InvalidParameter (codes "interface"))
description_declared call (Some (number _)) at = standard_declared call (InvalidParameter (codes "interface"))
description_declared call (Some (array _)) at = standard_declared call (InvalidParameter (codes "interface"))
description_declared call (Some (object _)) at = standard_declared call (InvalidParameter (codes "interface"))

resolution_declared : (call : Call) (name : Bytes) (address : Option Address) → IsAt call resolver_name (codes "Resolve") → is_declared call (resolution name address) ≡ true
resolution_declared call name (Some address) at = as_reply call resolver_name (codes "Resolve") _ at (one_reads resolver_tree (codes "address") (address_text address) refl)
resolution_declared call name None at = one_reads resolver_tree (codes "interface") name refl

resolves_declared : (call : Call) (entries : Entries) (found : Option Data) → IsAt call resolver_name (codes "Resolve") → is_declared call (resolves entries found) ≡ true
resolves_declared call entries None at = standard_declared call (InvalidParameter (codes "interface"))
resolves_declared call entries (Some (string name)) at = resolution_declared call name (address_at name entries) at
resolves_declared call entries (Some null) at = standard_declared call (InvalidParameter (codes "interface"))
resolves_declared call entries (Some (boolean _)) at = standard_declared call (InvalidParameter (codes "interface"))
resolves_declared call entries (Some (number _)) at = standard_declared call (InvalidParameter (codes "interface"))
resolves_declared call entries (Some (array _)) at = standard_declared call (InvalidParameter (codes "interface"))
resolves_declared call entries (Some (object _)) at = standard_declared call (InvalidParameter (codes "interface"))

is_at : (call : Call) (i m interface method : Bytes) → IsAt call i m → bytes_eq i interface ≡ true → bytes_eq m method ≡ true → IsAt call interface method
is_at call i m interface method at one other =
    at ∙ ap (λ (x : Bytes). Some (x, m)) ((bytes_eq-Decides i interface).0 one) ∙ ap (λ (y : Bytes). Some (interface, y)) ((bytes_eq-Decides m method).0 other)

service_declared : (entries : Entries) (call : Call) (i m : Bytes) → IsAt call i m → bytes_eq i service_name ≡ true
    → is_declared call (reply_by entries call (of_service m)) ≡ true
service_declared entries call i m at here = elim (cases_Bool (bytes_eq m (codes "GetInfo"))) [
  | inl info_asked ↦ rw info_asked (unless_declared call (plain (info (service_name ∷ resolver_name ∷ [])))
      (as_reply call service_name (codes "GetInfo") _ (is_at call i m service_name (codes "GetInfo") at here info_asked)
      (info_reads service_tree (codes "Varlink") (codes "resolver") (codes "1") (codes "https://varlink.org") (service_name ∷ resolver_name ∷ []))))
  | inr other ↦ rw other (elim (cases_Bool (bytes_eq m (codes "GetInterfaceDescription"))) [
    | inl asked ↦ rw asked (unless_declared call (describes (get (codes "interface") call.parameters))
        (description_declared call (get (codes "interface") call.parameters) (is_at call i m service_name (codes "GetInterfaceDescription") at here asked)))
    | inr none ↦ rw none (standard_declared call (MethodNotFound call.method))
  ])
]

resolver_declared : (entries : Entries) (call : Call) (i m : Bytes) → IsAt call i m → bytes_eq i resolver_name ≡ true
    → is_declared call (reply_by entries call (of_resolver m)) ≡ true
resolver_declared entries call i m at here = elim (cases_Bool (bytes_eq m (codes "GetInfo"))) [
  | inl info_asked ↦ rw info_asked (unless_declared call (plain (info (names entries)))
      (as_reply call resolver_name (codes "GetInfo") _ (is_at call i m resolver_name (codes "GetInfo") at here info_asked)
      (info_reads resolver_tree (codes "Varlink") (codes "resolver") (codes "1") (codes "https://varlink.org") (names entries))))
  | inr other ↦ rw other (elim (cases_Bool (bytes_eq m (codes "Resolve"))) [
    | inl asked ↦ rw asked (unless_declared call (resolves entries (get (codes "interface") call.parameters))
        (resolves_declared call entries (get (codes "interface") call.parameters) (is_at call i m resolver_name (codes "Resolve") at here asked)))
    | inr none ↦ rw none (standard_declared call (MethodNotFound call.method))
  ])
]

declared_by : (entries : Entries) (call : Call) (parts : Option (Bytes × Bytes)) → at_dot call.method ≡ parts → is_declared call (reply_by entries call (of_parts parts)) ≡ true
declared_by entries call None at = standard_declared call (InterfaceNotFound (interface_of call.method))
declared_by entries call (Some (i, m)) at = elim (cases_Bool (bytes_eq i service_name)) [
  | inl service ↦ rw service (service_declared entries call i m at service)
  | inr other ↦ rw other (elim (cases_Bool (bytes_eq i resolver_name)) [
    | inl resolver ↦ rw resolver (resolver_declared entries call i m at resolver)
    | inr none ↦ rw none (standard_declared call (InterfaceNotFound (interface_of call.method)))
  ])
]

pub replies-are-declared : RepliesAreDeclared
unfolding reply_of
replies-are-declared entries call = declared_by entries call (at_dot call.method) refl
