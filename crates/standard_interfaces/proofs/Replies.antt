-- what reads by a struct whose fields are texts
use Rattle.std.proofs.Common.{◌≡◌, true, List, [], ◌∷◌, map, Some, codes, refl, bytes_eq}
use Rattle.serde_json.specs.Data.{string, array, object, no_members, member}
use Rattle.serde_json.specs.View.{items_of}
use Rattle.idl_tree.specs.Names.{Bytes}
use Rattle.idl_tree.specs.declared.trees.Interface.{Interface}
use Rattle.idl_tree.specs.declared.trees.Body.TheVariants.{Str, outs-Struct}
use Rattle.idl_tree.specs.declared.trees.Core.TheVariants.{outs-Str}
use Rattle.typed_value.specs.Reads.{Reader, item_readers, all_of}
use Rattle.typed_value.specs.declared.vals.Val.TheVariants as val
use Rattle.call_form.specs.declared.StdError.TheVariants.{InterfaceNotFound, MethodNotFound, MethodNotImplemented, InvalidParameter, ExpectedMore, PermissionDenied}
use Rattle.standard_interfaces.specs.Definitions.{fields, text, info, service_tree}
use Rattle.standard_interfaces.specs.Readings.{reads_by}
use Rattle.standard_interfaces.specs.Laws.{StandardErrorsRead}

pub one_reads : (scope : Interface) (name value : Bytes) → bytes_eq name name ≡ true
    → reads_by scope (Some (fields (text name))) (object (member name (string value) no_members)) ≡ true
one_reads scope name value same = rw (outs-Struct, same, outs-Str) refl

pub none_reads : (scope : Interface) → reads_by scope (Some (fields [])) (object no_members) ≡ true
none_reads scope = rw outs-Struct refl

texts_read : (scope : Interface) (texts : List Bytes)
    → all_of (map (λ (reads : Reader). reads [] Str) (item_readers scope (items_of (map string texts)))) ≡ Some (map val.Str texts)
texts_read scope [] = refl
texts_read scope (text ∷ texts) = rw (outs-Str, texts_read scope texts) refl

pub info_reads : (scope : Interface) (vendor product version url : Bytes) (interfaces : List Bytes)
    → reads_by scope (Some (fields info)) (object
    (member (codes "interfaces") (array (items_of (map string interfaces)))
    (member (codes "product") (string product)
    (member (codes "url") (string url)
    (member (codes "vendor") (string vendor)
    (member (codes "version") (string version) no_members)))))) ≡ true
info_reads scope vendor product version url interfaces = rw (outs-Struct, outs-Str, texts_read scope interfaces) refl

pub standard-errors-read : StandardErrorsRead
standard-errors-read (InterfaceNotFound interface) = (codes "InterfaceNotFound", refl, one_reads service_tree (codes "interface") interface refl)
standard-errors-read (MethodNotFound method) = (codes "MethodNotFound", refl, one_reads service_tree (codes "method") method refl)
standard-errors-read (MethodNotImplemented method) = (codes "MethodNotImplemented", refl, one_reads service_tree (codes "method") method refl)
standard-errors-read (InvalidParameter parameter) = (codes "InvalidParameter", refl, one_reads service_tree (codes "parameter") parameter refl)
standard-errors-read ExpectedMore = (codes "ExpectedMore", refl, none_reads service_tree)
standard-errors-read PermissionDenied = (codes "PermissionDenied", refl, none_reads service_tree)
