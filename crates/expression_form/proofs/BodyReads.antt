-- a type that is a body in place reads as the body
use Rattle.std.proofs.Common.{◌≡◌, [], refl}
use Rattle.serde_json.specs.Data.{Data, null, boolean, number, string, array, object}
use Rattle.idl_tree.specs.declared.trees.Interface.{Interface}
use Rattle.idl_tree.specs.declared.trees.Body.{Body}
use Rattle.idl_tree.specs.declared.trees.Core.TheVariants.{Inline, outs-Inline}
use Rattle.typed_value.specs.Reads.{reader, ReadsBody}

pub body_reads : (scope : Interface) (body : Body) (d : Data) → reader scope d [] (Inline body) ≡ ReadsBody scope body d
body_reads scope body null = rw outs-Inline refl
body_reads scope body (boolean b) = rw outs-Inline refl
body_reads scope body (number n) = rw outs-Inline refl
body_reads scope body (string s) = rw outs-Inline refl
body_reads scope body (array ds) = rw outs-Inline refl
body_reads scope body (object ms) = rw outs-Inline refl
