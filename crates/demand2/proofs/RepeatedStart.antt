-- Whole transfers with a repeated Start, by computing. Assumes nothing.
use mathlib.Core.Path.{refl}
use Rattle.transfer.specs.Legs.{select_refused, finished, push, parse}
use Rattle.transfer.specs.Whole.{bytes_sent, served, replies, onward, bytes_fetched, last_among, accepted, write_leg, selected_leg, leg_of, last_leg, legs_of, transfer_of}
use Rattle.calls.proofs.Computes.{computes}
use Rattle.demand2.specs.RepeatedStart.{AllGive, RepeatedStartsGive}

pub repeated_starts_give : RepeatedStartsGive
unfolding computes select_refused finished push parse bytes_sent served replies onward bytes_fetched last_among accepted write_leg selected_leg leg_of last_leg legs_of transfer_of AllGive
repeated_starts_give = (refl, (refl, (refl, (refl, (refl, tt)))))
