-- the texts of the two interfaces are those of their trees
use Rattle.std.proofs.Common.{arith, ◌≡◌, ◌≤◌, ℕ, true, List, [], ◌∷◌, ◌++◌, map, codes, refl, ap, sym, subst, ◌∙◌}
use Rattle.std.specs.Prelude.{◌&&◌, nat_lt}
use Rattle.std.specs.List.{list_all}
use Rattle.idl_tree.specs.Names.{Bytes, is_interface_name}
use Rattle.idl_tree.specs.Form.{Form, Deep, greatest}
use Rattle.idl_tree.specs.Faults.{Good, defines}
use Rattle.idl_tree.specs.declared.trees.Interface.{Interface}
use Rattle.idl_rules.specs.Canon.{Canon, note_lines, line_end}
use Rattle.idl_rules.specs.Spells.{Spells, Accepts}
use Rattle.idl_print.proofs.CanonSpells.{spells, spells_one}
use Rattle.call_form.specs.declared.interfaces.TheConstants.{SERVICE_TEXT, RESOLVER_TEXT}
use Rattle.standard_interfaces.specs.Definitions.{service_tree, resolver_tree, info, text}
use Rattle.standard_interfaces.specs.Laws.{IsTextOf, TextsAreAccepted}
use Rattle.standard_interfaces.proofs.Rows.{Row, of_method, of_error, member_of, rows_laid, row_form, are_ascii, is_line, notes_formed, rows_formed, rows_deep, rows_faulty}

abbrev service_rows : List Row
service_rows =
    of_method (codes " Tells who made the service and which interfaces it has.") (codes "GetInfo") [] info
    ∷ of_method (codes " Tells the definition of one interface.") (codes "GetInterfaceDescription") (text (codes "interface")) (text (codes "description"))
    ∷ of_error (codes " The service has no such interface.") (codes "InterfaceNotFound") (text (codes "interface"))
    ∷ of_error (codes " The interface has no such method.") (codes "MethodNotFound") (text (codes "method"))
    ∷ of_error (codes " The method is defined and the service has nothing for it.") (codes "MethodNotImplemented") (text (codes "method"))
    ∷ of_error (codes " One of the parameters or flags is refused.") (codes "InvalidParameter") (text (codes "parameter"))
    ∷ of_error (codes " The method gives several replies and was called without more.") (codes "ExpectedMore") []
    ∷ of_error (codes " The caller may not make this call.") (codes "PermissionDenied") []
    ∷ []

abbrev resolver_rows : List Row
resolver_rows =
    of_method (codes " Tells who made the resolver and which interfaces it knows.") (codes "GetInfo") [] info
    ∷ of_method (codes " Tells the address at which an interface is served.") (codes "Resolve") (text (codes "interface")) (text (codes "address"))
    ∷ of_error (codes " The interface is not registered.") (codes "InterfaceNotFound") (text (codes "interface"))
    ∷ []

abbrev headed : Bytes → Bytes → Bytes → Bytes
headed note name members = note_lines 0 (note ∷ []) ++ codes "interface " ++ name ++ line_end ++ members ++ []

service_canon : Canon service_tree ≡ SERVICE_TEXT.now
service_canon = ap (headed (codes " The interface that every service has.") (codes "org.varlink.service")) (rows_laid service_rows) ∙ refl

resolver_canon : Canon resolver_tree ≡ RESOLVER_TEXT.now
resolver_canon = ap (headed (codes " Finds the address of an interface.") (codes "org.varlink.resolver")) (rows_laid resolver_rows) ∙ refl

tree_form : (note name : Bytes) (rows : List Row) → list_all (λ b. nat_lt b 128) note ≡ true → are_ascii rows ≡ true
    → (is_line note && true) && is_interface_name name && list_all row_form rows && true ≡ true
    → Form (record { notes = note ∷ []; name = name; members = map member_of rows; tail = [] })
tree_form note name rows ascii lines h = (λ i. notes_formed note ascii i && is_interface_name name && rows_formed rows lines i && true) ∙ h

service_form : Form service_tree
service_form = tree_form (codes " The interface that every service has.") (codes "org.varlink.service") service_rows refl refl refl

resolver_form : Form resolver_tree
resolver_form = tree_form (codes " Finds the address of an interface.") (codes "org.varlink.resolver") resolver_rows refl refl refl

deep_as : (n : ℕ) (tree : Interface) → Deep tree ≡ n → n ≤ 64 → Deep tree ≤ 64
deep_as n tree e low = rw e low

service_good : Good service_tree
service_good = rows_faulty (defines service_tree) [] service_rows ∙ refl

resolver_good : Good resolver_tree
resolver_good = rows_faulty (defines resolver_tree) [] resolver_rows ∙ refl

text_of : (tree : Interface) (text : Bytes) → Canon tree ≡ text → Form tree → Deep tree ≤ 64 → Good tree → IsTextOf tree text
text_of tree text e form within good = (
  e,
  subst (λ (t : Bytes). Accepts t tree) e (spells tree form, within, good),
  λ other accepts. spells_one tree form other (subst (Spells other) (sym e) accepts.0),
)

pub texts-are-accepted : TextsAreAccepted
texts-are-accepted = (
  text_of service_tree SERVICE_TEXT.now service_canon service_form (deep_as 1 service_tree (ap greatest (rows_deep service_rows)) (omega arith)) service_good,
  text_of resolver_tree RESOLVER_TEXT.now resolver_canon resolver_form (deep_as 1 resolver_tree (ap greatest (rows_deep resolver_rows)) (omega arith)) resolver_good,
)
