-- What the borrows of a type and of a rule's surroundings stand for.
use Rattle.std.specs.Prelude.{List, [], option_map}
use Rattle.idl_tree.specs.declared.trees.Prefix.{Prefix}
use Rattle.idl_tree.specs.declared.trees.Core.{Core}
use Rattle.idl_tree.specs.declared.trees.Core.TheVariants.{Int, Str, Inline}
use Rattle.sheet_rules.specs.Types as types
use Rattle.sheet_rules.specs.Settings as settings
use Rattle.sheet_rules.specs.declared.types.Typ.{Typ}
use Rattle.sheet_rules.specs.declared.types.Kind.{Kind}
use Rattle.sheet_rules.specs.declared.types.Kind.TheVariants as kind
use Rattle.sheet_rules.specs.declared.standings.Standing.{Standing}

-- bodies, `int` and `string` have no prefixes
abbrev pub prefixes_of : Kind → List Prefix
prefixes_of (kind.Used prefixes core) = prefixes.now
prefixes_of (kind.Body body) = []
prefixes_of kind.Int = []
prefixes_of kind.Str = []

abbrev pub core_of : Kind → Core
core_of (kind.Used prefixes core) = core.now
core_of (kind.Body body) = Inline body.now
core_of kind.Int = Int
core_of kind.Str = Str

abbrev pub typ_of : Typ → types.Typ
typ_of of = record { scope = of.scope; prefixes = prefixes_of of.kind; core = core_of of.kind }

abbrev pub setting_of : Standing → settings.Setting
setting_of standing = record {
  interfaces = standing.interfaces.now;
  registers = standing.registers.now;
  scope = standing.scope;
  input = standing.input.now;
  output = standing.output.now;
  item = option_map typ_of standing.item;
}
