-- "page bytes 0 to 256, over 0 only in a write leg past its address, each one that would be Acked there"
use Rattle.std.specs.Prelude.{Bool, true, ◌&&◌, List, ℕ, zero, suc, ◌+◌, get_or}
use Rattle.bus.specs.declared.Space.{Space}
use Rattle.tag.specs.declared.Core.{Core}
use Rattle.bus.specs.declared.Bus.{Bus}
use Rattle.bus.specs.declared.Bus.TheVariants.{Idle, Started, ReadLeg, WriteLeg, LowAddress, DataLeg}
use Rattle.tag.specs.Layout.{page_place, page}
use Rattle.select.specs.Select.{first_of}
use Rattle.rule.specs.Rule.{acked}

-- each of the page's k bytes would be Acked at its place
unfoldable pub page_acked : Space → Core → Bool → ℕ → List ℕ → ℕ → Bool
page_acked space c session first m zero = true
page_acked space c session first m (suc k) = page_acked space c session first m k && acked space c session first k (page k m) (get_or m (page_place + k) 0)

-- of a bus with counter c
unfoldable pub bus_in_range : Bus → ℕ → Core → Bool → List ℕ → Bool
bus_in_range Idle counter c session m = true
bus_in_range (Started transfer) counter c session m = true
bus_in_range (ReadLeg kept space over last) counter c session m = true
bus_in_range (WriteLeg kept space) counter c session m = true
bus_in_range (LowAddress kept space high) counter c session m = true
bus_in_range (DataLeg kept space count spoiled) counter c session m = page_acked space c session (first_of counter count) m count
