-- Replies whose parameters read by what an interface declares (varlink.org, "Method Call").
use Rattle.std.specs.Prelude.{Bool, false, Option, Some, None, is_some, option_map}
use Rattle.serde_json.specs.Data.{Data}
use Rattle.idl_tree.specs.Names.{Bytes}
use Rattle.idl_tree.specs.Faults.{method_named, error_named}
use Rattle.idl_tree.specs.declared.trees.Interface.{Interface}
use Rattle.idl_tree.specs.declared.trees.Body.{Body}
use Rattle.typed_value.specs.Reads.{ReadsBody}

-- what a method of that name replies
abbrev pub output_named : Bytes → Interface → Option Body
output_named name scope = option_map (λ (bodies : Body × Body). bodies.1) (method_named name scope)

-- the parameters read by a body that is there
abbrev pub reads_by : Interface → Option Body → Data → Bool
reads_by scope None parameters = false
reads_by scope (Some body) parameters = is_some (ReadsBody scope body parameters)

-- they read by the reply of a method of that name, or by the error of that name
abbrev pub reads_as_reply : Interface → Bytes → Data → Bool
reads_as_reply scope name parameters = reads_by scope (output_named name scope) parameters

abbrev pub reads_as_error : Interface → Bytes → Data → Bool
reads_as_error scope name parameters = reads_by scope (error_named name scope) parameters
