-- what a service tells of itself can be written
use Rattle.std.proofs.Common.{◌≡◌, List, [], ◌∷◌, map, None, codes, refl, sym, subst, rules}
use Rattle.serde_json.specs.Data.{Data, string, array, object, no_members, member}
use Rattle.serde_json.specs.View.{items_of}
use Rattle.link_port.specs.SoundTrees.{IsSound, AreSoundItems, HasUtf8}
use Rattle.idl_tree.specs.Names.{Bytes}
use Rattle.sheet_form.specs.declared.sheets.Contents.{Contents}
use Rattle.call_form.specs.CallOf.{IsObject}
use Rattle.call_form.specs.ReplyText.{IsWritable}
use Rattle.service_core.specs.Descriptions.{names, strings, info_of}
use Rattle.service_core.specs.Places.{plain}

sound_items : (texts : List Bytes) → AreSoundItems (items_of (map string texts))
sound_items [] = tt
sound_items (text ∷ texts) = (tt, sound_items texts)

members_sound : (interfaces : Data) (product url vendor version : Bytes) → IsSound interfaces → IsSound (object
    (member (codes "interfaces") interfaces
    (member (codes "product") (string product)
    (member (codes "url") (string url)
    (member (codes "vendor") (string vendor)
    (member (codes "version") (string version) no_members))))))
members_sound interfaces product url vendor version sound = search rules

pub info_writable : (parameters : Data) (sheet : Contents) → parameters ≡ info_of sheet → HasUtf8 parameters → IsWritable (plain parameters)
info_writable parameters sheet is utf8 = record {
  is_object = subst IsObject (sym is) refl;
  is_sound = subst IsSound (sym is) (members_sound (strings (names sheet)) sheet.info.product sheet.info.url sheet.info.vendor sheet.info.version (sound_items (names sheet)));
  is_utf8 = utf8;
  name_is_utf8 = tt;
}
