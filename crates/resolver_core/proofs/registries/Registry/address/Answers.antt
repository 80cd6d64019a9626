use Rattle.std.proofs.Common.{ap, ◌∙◌}
use Rattle.resolver_core.specs.Registries.{address_at}
use Rattle.resolver_core.proofs.Reading.{lookup_is}
use Rattle.resolver_core.proofs.registries.Registry.address.Goals as goal

pub returns : goal.returns
returns c =
    c.get.ensures.value ∙ lookup_is c.args.interface.now c.self.inside.entries.entries ∙ ap (address_at c.args.interface.now) c.self.view_is
