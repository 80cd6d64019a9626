-- What the borrows of a scene stand for.
use Rattle.std.specs.Prelude.{option_map}
use Rattle.std.specs.Option.{option_copied}
use Rattle.rule_values.specs.Meanings.{Env}
use Rattle.rule_values.specs.declared.scenes.Scene.{Scene}

abbrev pub env_of : Scene → Env
env_of scene = record { registers = scene.registers.now; parameters = scene.parameters.now; item = option_copied scene.item }
