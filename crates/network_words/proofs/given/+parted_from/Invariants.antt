use Rattle.std.proofs.Common.{length}
use Rattle.network_words.proofs.given.+parted_from.Given as goal

abbrev pub decreases-parted_from : goal.decreases-parted_from
decreases-parted_from l = length l.words.now
