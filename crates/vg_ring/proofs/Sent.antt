-- The ends of a ring may go to other threads, where the pass in a cargo may.
use denote.RattleType.{RattleType}
use denote.Param.Send.{IsSend, IsSync, sendable, recorded_send, recorded_sync, struct_send, struct_sync, view_send, part_keyless, Frees}
use denote.Struct.Declared.{shape}
use denote.Struct.Struct.{Struct}
use denote.Struct.Owning as owning
use Rattle.std.proofs.Crossing.{crosses, Arc-send, sync as heap_sync, send as heap_send, frees as heap_frees}
use Rattle.std.specs.declared.alloc.Allocator as Allocator
use Rattle.std.specs.contracts.alloc.Global as Heap
use Rattle.std.specs.contracts.impls.GlobalAllocator.TheImpl as heap
use Rattle.std.specs.contracts.option.Option as option
use Rattle.atomic_table.specs.contracts.shared.Seat as seat
use Rattle.atomic_table.specs.contracts.shared.Shared as shared
use Rattle.atomic_table.specs.contracts.send_lease.SendLease as lease
use Rattle.atomic_table.specs.contracts.owned.Table as table
use Rattle.atomic_table.specs.declared.shared.TableRule as TableRule
use Rattle.atomic_table.proofs.Rights.{right_send}
use Rattle.atomic_table.proofs.Sent.{seat_keyless, owns_keyless, shares_keyless}
use Rattle.vg_history.specs.declared.machine.Tagged as Tagged
use Rattle.vg_ring.specs.declared.naming.Naming as Naming
use Rattle.vg_cargo.proofs.Sent.{cargo_send}
use Rattle.vg_split.specs.contracts.law.Law as law
use Rattle.vg_split.specs.contracts.law.Size as size
use Rattle.vg_split.specs.contracts.law.LawTableRuleOptionCargoViewSize.TheImpl as rule
use Rattle.vg_split.specs.contracts.views.View as view
use Rattle.vg_cargo.specs.contracts.cargo.Cargo as cargo
use Rattle.vg_ring.specs.contracts.driver_end.DriverEnd as driver
use Rattle.vg_ring.specs.contracts.driver_end.DriverEnd.TheInside as driver_in
use Rattle.vg_ring.specs.contracts.device_end.DeviceEnd as device
use Rattle.vg_ring.specs.contracts.device_end.DeviceEnd.TheInside as device_in

seat_send : (X V : RattleType) → IsSend X → IsSend (seat.the_row X V)
seat_send X V s = record { owned = λ d vs. ((λ vss. (tt, ((λ uss. (tt, tt)), tt))), seat_keyless X s V.coded.code d.table_id d.id d.me); leaving = λ k f vs. tt }

shared_send : (X V K T : RattleType) (g : TableRule.Ghosts T.Denot X.Denot V.Denot K.Denot) → IsSend X → IsSend (shared.the_row X V K T g)
shared_send X V K T g s = record { owned = λ d vs. ((λ vss. (tt, (tt, (tt, ((λ uss. (tt, tt)), tt))))), owns_keyless X s V.coded.code d.table_id (g.holds d.key) d.words d.slots); leaving = λ k f vs. tt }

shared_sync : (X V K T : RattleType) (g : TableRule.Ghosts T.Denot X.Denot V.Denot K.Denot) → IsSend X → IsSync (shared.the_row X V K T g)
shared_sync X V K T g s = let fields : IsSync (Struct (owning.shape (shared.the_type X V K T g))) = search sendable depth 20 in
    record { shared = λ d b o ν. (fields.shared (d.words, (d.slots, (tt, tt))) b o ν, shares_keyless X s V.coded.code d.table_id (g.holds d.key) d.words d.slots ν) }

lease_sync : (X Z : RattleType) (ga : Allocator.Ghosts Z.Denot) → Frees ga ga.dealloc_token → IsSync (lease.the_row X Z ga)
lease_sync X Z ga f = record { shared = λ d b o ν q. part_keyless (lease.the_row X Z ga) (right_send X Z ga f) q d b o }

table_sync : (X V K T Z : RattleType) (gt : TableRule.Ghosts T.Denot X.Denot V.Denot K.Denot) (ga : Allocator.Ghosts Z.Denot) → IsSend X → IsSync Z → Frees ga ga.dealloc_token → IsSync (table.the_row X V K T Z gt ga)
table_sync X V K T Z gt ga s y f = let O = table.the_type X V K T Z gt ga in
    recorded_sync _ _ _ O.to_one (struct_sync (shape O) (shared_sync X V K T gt s, (search sendable, (search sendable, (lease_sync _ Z ga f, (lease_sync X Z ga f, (y, tt)))))))

table_send : (X V K T Z : RattleType) (gt : TableRule.Ghosts T.Denot X.Denot V.Denot K.Denot) (ga : Allocator.Ghosts Z.Denot) → IsSend X → IsSend Z → Frees ga ga.dealloc_token → IsSend (table.the_row X V K T Z gt ga)
table_send X V K T Z gt ga s z f = let O = table.the_type X V K T Z gt ga in
    recorded_send _ _ _ O.to_one (struct_send (shape O) (shared_send X V K T gt s, (search sendable, (search sendable, (right_send _ Z ga f, (right_send X Z ga f, (z, tt)))))))

module _ (P N : RattleType) (gp : Tagged.Ghosts P.Denot) (gn : Naming.Ghosts N.Denot) (p : IsSend P) (n : IsSend N) where
  slot_send : IsSend (option.the_row (cargo.the_row P gp))
  slot_send = search (sendable, cargo_send) depth 20

  pass_send : IsSend (seat.the_row (option.the_row (cargo.the_row P gp)) view.the_row)
  pass_send = seat_send (option.the_row (cargo.the_row P gp)) view.the_row slot_send

  line_send : IsSend (table.the_row (option.the_row (cargo.the_row P gp)) view.the_row size.the_row law.the_row Heap.the_row (rule.ghosts P gp rule.no_dict rule.no_dict) heap.ghosts)
  line_send = table_send (option.the_row (cargo.the_row P gp)) view.the_row size.the_row law.the_row Heap.the_row (rule.ghosts P gp rule.no_dict rule.no_dict) heap.ghosts slot_send heap_send (record { frees = heap_frees.frees })

  line_sync : IsSync (table.the_row (option.the_row (cargo.the_row P gp)) view.the_row size.the_row law.the_row Heap.the_row (rule.ghosts P gp rule.no_dict rule.no_dict) heap.ghosts)
  line_sync = table_sync (option.the_row (cargo.the_row P gp)) view.the_row size.the_row law.the_row Heap.the_row (rule.ghosts P gp rule.no_dict rule.no_dict) heap.ghosts slot_send heap_sync (record { frees = heap_frees.frees })

  pub driver_send : IsSend (driver.the_row P N gp gn)
  driver_send = let T = driver_in.the_type P N gp gn in
      view_send _ _ _ _ _ (recorded_send _ _ _ T.to_one (struct_send (shape T) (Arc-send _ line_send line_sync, (pass_send, (search sendable, (search sendable, (search sendable, (search sendable, (search (sendable, crosses) depth 20, (search (sendable, crosses) depth 20, (search sendable depth 20, tt)))))))))))

  pub device_send : IsSend (device.the_row P N gp gn)
  device_send = let T = device_in.the_type P N gp gn in
      view_send _ _ _ _ _ (recorded_send _ _ _ T.to_one (struct_send (shape T) (Arc-send _ line_send line_sync, (pass_send, (search sendable, (search sendable, (search sendable, (search (sendable, crosses) depth 20, (search (sendable, crosses) depth 20, (search sendable depth 20, tt))))))))))
