use denote.Param.{param}
use denote.Param.Send.{IsSend, sendable, param_send}
use Rattle.std.proofs.Common.{◌≡◌, length, sym, subst}
use Rattle.std.specs.Prelude.{IfOk}
use Rattle.std.proofs.Crossing.{crosses}
use Rattle.vg_cargo.specs.Ends.{DriverLists}
use Rattle.vg_cargo.specs.DeviceEnds.{DeviceLists}
use Rattle.vg_ring.proofs.Sent.{driver_send, device_send}
use Rattle.vg_ring_uses.specs.Carried.{HasAnswered, HasAsked, HaveCarried}
use Rattle.vg_ring_uses.proofs.AskLemmas.{have_carried}
use Rattle.vg_ring_uses.proofs.carrying.carry.Lts as lts
use Rattle.vg_ring_uses.proofs.carrying.carry.Given.{Over}
use Rattle.vg_ring_uses.proofs.carrying.carry.Goals as goal

asked_send : (g : Over) (κs : contract.Lifetimes.Lfts 8) → IsSend (param 0 g.row.N) → IsSend (lts.arg-2-0 g.row.N g.row.R g.N.laws g.R.laws g.N.Naming g.N.Naming-dict g.R.Threads g.R.Threads-dict g.R.Wait g.R.Wait-dict κs)
asked_send g κs n = search (sendable, crosses, driver_send) depth 20

answered_send : (g : Over) (κs : contract.Lifetimes.Lfts 8) → IsSend (param 0 g.row.N) → IsSend (lts.arg-2-1 g.row.N g.row.R g.N.laws g.R.laws g.N.Naming g.N.Naming-dict g.R.Threads g.R.Threads-dict g.R.Wait g.R.Wait-dict κs)
answered_send g κs n = search (sendable, crosses, device_send) depth 20

asking_send : (g : Over) (κs : contract.Lifetimes.Lfts 8) → IsSend (param 0 g.row.N) → IsSend (lts.arg-2-2 g.row.N g.row.R g.N.laws g.R.laws g.N.Naming g.N.Naming-dict g.R.Threads g.R.Threads-dict g.R.Wait g.R.Wait-dict κs)
asking_send g κs n = search (sendable, crosses, driver_send) depth 20

answering_send : (g : Over) (κs : contract.Lifetimes.Lfts 8) → IsSend (param 0 g.row.N) → IsSend (lts.arg-2-3 g.row.N g.row.R g.N.laws g.R.laws g.N.Naming g.N.Naming-dict g.R.Threads g.R.Threads-dict g.R.Wait g.R.Wait-dict κs)
answering_send g κs n = search (sendable, crosses, device_send) depth 20

pub both-requires-send-D : goal.both-requires-send-D
both-requires-send-D g c κs within = param_send _ _ (asked_send g κs c.type_bounds.send-N)

pub both-requires-send-E : goal.both-requires-send-E
both-requires-send-E g c κs within = param_send _ _ (answered_send g κs c.type_bounds.send-N)

pub both-requires-send-A : goal.both-requires-send-A
both-requires-send-A g c κs within = param_send _ _ (asking_send g κs c.type_bounds.send-N)

pub both-requires-send-B : goal.both-requires-send-B
both-requires-send-B g c κs within = param_send _ _ (answering_send g κs c.type_bounds.send-N)

pub returns : goal.returns
returns g c =
    let o = c.args.order in
    let got = subst (λ r. IfOk r (λ x. HasAsked o.queue o.lane o.count x.0 × (length x.0.reaped ≡ o.count))) c.in_ok-driver.was c.in_ok-asked.ensures.0 in
    let answered = subst (λ r. IfOk r HasAnswered) c.in_ok-device.was c.in_ok-asked.ensures.1 in
    let same = c.ends_agree.ensures in
    subst (λ (x : DriverLists × DeviceLists). HaveCarried o.queue o.lane o.count x.0 x.1) (λ i. (sym same.driver i, sym same.device i))
    (have_carried o.queue o.lane o.count _ _ got.0 got.1 answered same.fetched same.reaped)
