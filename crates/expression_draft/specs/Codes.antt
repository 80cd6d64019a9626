-- By what a proof tells the items of an array, and the members of an object, apart.
use Rattle.std.proofs.Common.{ap}
use base.Stored.{Coded}
use Rattle.serde_json.specs.Data.{Data, array, object, Items, no_items, Members, no_members}
use Rattle.link_port.specs.DataCode.{coded_data}

abbrev items_in : Data → Items
items_in (array ds) = ds
items_in d = no_items

abbrev members_in : Data → Members
members_in (object ms) = ms
members_in d = no_members

abbrev pub coded_items : Coded Items
coded_items = record {
  code = λ ds. coded_data.code (array ds);
  inj = λ ds es p. ap items_in (coded_data.inj (array ds) (array es) p);
}

abbrev pub coded_members : Coded Members
coded_members = record {
  code = λ ms. coded_data.code (object ms);
  inj = λ ms ns p. ap members_in (coded_data.inj (object ms) (object ns) p);
}
