-- What a service tells of itself (varlink.org, "Service", the methods `GetInfo` and `GetInterfaceDescription`).
use Rattle.std.specs.Prelude.{List, ◌∷◌, map, codes, if◌then◌else◌, Option, Some, option_map}
use Rattle.std.specs.Str.{bytes_eq}
use Rattle.serde_json.specs.Data.{Data, string, array, object, no_members, member}
use Rattle.serde_json.specs.View.{items_of}
use Rattle.idl_tree.specs.Names.{Bytes}
use Rattle.idl_rules.specs.Canon.{Canon}
use Rattle.call_form.specs.declared.interfaces.TheConstants.{SERVICE_TEXT}
use Rattle.sheet_form.specs.Interfaces.{names_of}
use Rattle.sheet_form.specs.declared.sheets.Contents.{Contents}
use Rattle.service_core.specs.Sheets.{interface_named}

-- the interface that every service has
abbrev pub service_name : Bytes
service_name = codes "org.varlink.service"

-- texts as a JSON array
abbrev pub strings : List Bytes → Data
strings texts = array (items_of (map string texts))

-- the names of the service's interfaces: the one that every service has, and then the sheet's in their order
abbrev pub names : Contents → List Bytes
names sheet = service_name ∷ names_of sheet.interfaces

-- who made the service, and which interfaces it has
abbrev pub info_of : Contents → Data
info_of sheet = object
    (member (codes "interfaces") (strings (names sheet))
    (member (codes "product") (string sheet.info.product)
    (member (codes "url") (string sheet.info.url)
    (member (codes "vendor") (string sheet.info.vendor)
    (member (codes "version") (string sheet.info.version) no_members)))))

-- the canonical text of the interface of that name, where the service has one
abbrev pub description_of : Contents → Bytes → Option Bytes
description_of sheet name =
    if bytes_eq name service_name then Some SERVICE_TEXT.now
    else option_map (λ found. Canon found.1) (interface_named sheet name)
