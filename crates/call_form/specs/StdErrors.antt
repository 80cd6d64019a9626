-- The error replies of the interface `org.varlink.service` (varlink.org, "Service").
use Rattle.std.specs.Prelude.{ℕ, List, false, codes, Some}
use Rattle.serde_json.specs.Data.{string, object, no_members, member}
use Rattle.call_form.specs.declared.Reply.{Reply}
use Rattle.call_form.specs.declared.StdError.{StdError}
use Rattle.call_form.specs.declared.StdError.TheVariants.{InterfaceNotFound, MethodNotFound}
use Rattle.call_form.specs.declared.StdError.TheVariants.{MethodNotImplemented, InvalidParameter}
use Rattle.call_form.specs.declared.StdError.TheVariants.{ExpectedMore, PermissionDenied}

-- an error reply with one field
abbrev pub error_reply : (name field value : List ℕ) → Reply
error_reply name field value =
    let fields = object (member field (string value) no_members) in
    record { parameters = fields; continues = false; error = Some name }

-- an error reply without a field
abbrev pub bare_error : (name : List ℕ) → Reply
bare_error name = record { parameters = object no_members; continues = false; error = Some name }

-- the error of this name, with the interface, method or parameter that it is about, if there is one
abbrev pub standard_of : StdError → Reply
standard_of (InterfaceNotFound interface) =
    error_reply (codes "org.varlink.service.InterfaceNotFound") (codes "interface") interface
standard_of (MethodNotFound method) =
    error_reply (codes "org.varlink.service.MethodNotFound") (codes "method") method
standard_of (MethodNotImplemented method) =
    error_reply (codes "org.varlink.service.MethodNotImplemented") (codes "method") method
standard_of (InvalidParameter parameter) =
    error_reply (codes "org.varlink.service.InvalidParameter") (codes "parameter") parameter
standard_of ExpectedMore = bare_error (codes "org.varlink.service.ExpectedMore")
standard_of PermissionDenied = bare_error (codes "org.varlink.service.PermissionDenied")
