-- Tokens may go to another thread, and the book may be shared, where what the machine is made of may cross threads.
use denote.RattleType.{RattleType}
use denote.Param.Send.{IsSend, IsSync, enum_send, sendable, recorded_send, recorded_sync, struct_send, struct_sync, view_send, part_keyless, Frees}
use denote.Struct.Declared.{shape}
use denote.Enum.Declared.{shape as enum_shape}
use denote.Struct.Struct.{Struct}
use denote.Struct.Owning as owning
use Rattle.std.proofs.Crossing.{crosses, sync as heap_sync, frees as heap_frees}
use Rattle.atomic_table.specs.contracts.shared.Seat as seat
use Rattle.std.specs.declared.alloc.Allocator as Allocator
use Rattle.atomic_table.specs.contracts.send_lease.SendLease as lease
use Rattle.atomic_table.specs.contracts.owned.Table as table
use Rattle.atomic_table.proofs.Rights.{right_send}
use Rattle.std.specs.contracts.alloc.Global as Heap
use Rattle.std.specs.contracts.impls.GlobalAllocator.TheImpl as heap
use Rattle.vg_book.specs.contracts.board.Law as law
use Rattle.vg_book.specs.contracts.board.LawTableRuleSlotViewSnapshot.TheImpl as rule
use Rattle.atomic_table.specs.contracts.shared.Shared as shared
use Rattle.atomic_table.specs.declared.shared.TableRule as TableRule
use Rattle.atomic_table.proofs.Sent.{seat_keyless, shares_keyless}
use Rattle.vg_history.proofs.Sent.{growing_send}
use Rattle.vg_book.specs.contracts.client.ClientToken as client
use Rattle.vg_book.specs.contracts.book.Book as book
use Rattle.vg_book.specs.contracts.client.ClientToken.TheInside as client_in
use Rattle.vg_book.specs.contracts.pass.Pass as pass
use Rattle.vg_book.specs.contracts.pass.Pass.TheInside as pass_in
use Rattle.vg_book.specs.contracts.pass.DonePass as done
use Rattle.vg_book.specs.contracts.pass.DonePass.TheInside as done_in
use Rattle.vg_book.specs.contracts.board.Core as core
use Rattle.vg_book.specs.contracts.board.Slot as slot
use Rattle.vg_book.specs.contracts.board.View as view
use Rattle.std.specs.contracts.snapshot.Snapshot as snapshot
use Rattle.vg_history.specs.declared.machine.Machine as Machine
use Rattle.vg_book.specs.declared.board.Naming as Naming
use Rattle.vg_book.specs.contracts.lane.LaneToken as lane
use Rattle.vg_book.specs.contracts.note.Note as note
use Rattle.vg_book.specs.contracts.root.Root as root

pub seat_send : (X V : RattleType) → IsSend X → IsSend (seat.the_row X V)
seat_send X V s = record { owned = λ d vs. ((λ vss. (tt, ((λ uss. (tt, tt)), tt))), seat_keyless X s V.coded.code d.table_id d.id d.me); leaving = λ k f vs. tt }

pub snapshot_send : (X : RattleType) → IsSend (snapshot.the_row X)
snapshot_send X = search (sendable, crosses) depth 20

pub shared_sync : (X V K T : RattleType) (g : TableRule.Ghosts T.Denot X.Denot V.Denot K.Denot) → IsSend X → IsSync (shared.the_row X V K T g)
shared_sync X V K T g s = let fields : IsSync (Struct (owning.shape (shared.the_type X V K T g))) = search sendable depth 20 in
    record { shared = λ d b o ν. (fields.shared (d.words, (d.slots, (tt, tt))) b o ν, shares_keyless X s V.coded.code d.table_id (g.holds d.key) d.words d.slots ν) }

pub lease_sync : (X Z : RattleType) (ga : Allocator.Ghosts Z.Denot) → Frees ga ga.dealloc_token → IsSync (lease.the_row X Z ga)
lease_sync X Z ga f = record { shared = λ d b o ν q. part_keyless (lease.the_row X Z ga) (right_send X Z ga f) q d b o }

pub table_sync : (X V K T Z : RattleType) (gt : TableRule.Ghosts T.Denot X.Denot V.Denot K.Denot) (ga : Allocator.Ghosts Z.Denot) → IsSend X → IsSync Z → Frees ga ga.dealloc_token → IsSync (table.the_row X V K T Z gt ga)
table_sync X V K T Z gt ga s y f = let O = table.the_type X V K T Z gt ga in
    recorded_sync _ _ _ O.to_one (struct_sync (shape O) (shared_sync X V K T gt s, (search sendable, (search sendable, (lease_sync _ Z ga f, (lease_sync X Z ga f, (y, tt)))))))

field_sync : (X V K T Z : RattleType) (gt : TableRule.Ghosts T.Denot X.Denot V.Denot K.Denot) (ga : Allocator.Ghosts Z.Denot) → IsSend X → IsSync Z → Frees ga ga.dealloc_token → IsSync (table.the_field X V K T Z gt ga).row
field_sync X V K T Z gt ga s y f = struct_sync (shape (table.the_type X V K T Z gt ga)) (shared_sync X V K T gt s, (search sendable, (search sendable, (lease_sync _ Z ga f, (lease_sync X Z ga f, (y, tt))))))

module _ (M S A R Q P H W : RattleType) (m : IsSend M) (a : IsSend A) (r : IsSend R) (q : IsSend Q) (p : IsSend P) where
  module _ (gm : Machine.Ghosts M.Denot S.Denot A.Denot R.Denot Q.Denot P.Denot H.Denot W.Denot) where
    core_send : IsSend (core.the_field M S A R Q P H W gm).row
    core_send = struct_send (shape (core.the_type M S A R Q P H W gm)) (m, (growing_send M S A R Q P H W m a r q p gm, tt))

    pub slot_send : IsSend (slot.the_row M S A R Q P H W gm)
    slot_send = let T = slot.the_type M S A R Q P H W gm in
        recorded_send _ _ _ T.to_one (enum_send (enum_shape T) ((core_send, tt), ((snapshot_send H, tt), ((snapshot_send Q, tt), tt))))

    place_send : IsSend (seat.the_row (slot.the_row M S A R Q P H W gm) (view.the_row M S A R Q P H W))
    place_send = seat_send (slot.the_row M S A R Q P H W gm) (view.the_row M S A R Q P H W) slot_send

  module _ (B : RattleType) (gm : Machine.Ghosts M.Denot S.Denot A.Denot R.Denot Q.Denot P.Denot H.Denot W.Denot) (gb : Naming.Ghosts B.Denot) where
    pub lane_send : IsSend (lane.the_row M B S A R Q P H W gm gb)
    lane_send = search (sendable, crosses, place_send) depth 20

    pub note_send : IsSend (note.the_row M B S A R Q P H W gm gb)
    note_send = search (sendable, crosses, place_send) depth 20

    pub root_send : IsSend (root.the_row M B S A R Q P H W gm gb)
    root_send = search (sendable, crosses, place_send) depth 20

    pub pass_send : IsSend (pass.the_row M B S A R Q P H W gm gb)
    pass_send = let T = pass_in.the_type M B S A R Q P H W gm gb in
        view_send _ _ _ _ _ (recorded_send _ _ _ T.to_one (struct_send (shape T) (search sendable, (search sendable, (snapshot_send Q, (search sendable, (search sendable, ((place_send gm), (search sendable depth 20, tt)))))))))

    pub done_send : IsSend (done.the_row M B S A R Q P H W gm gb)
    done_send = let T = done_in.the_type M B S A R Q P H W gm gb in
        view_send _ _ _ _ _ (recorded_send _ _ _ T.to_one (struct_send (shape T) (search sendable, (search sendable, (snapshot_send Q, (search sendable, (search sendable, (snapshot_send P, (search sendable, ((place_send gm), (search sendable depth 20, tt)))))))))))

    pub client_send : IsSend H → IsSend (client.the_row M B S A R Q P H W gm gb)
    client_send h = let T = client_in.the_type M B S A R Q P H W gm gb in
        view_send _ _ _ _ _ (recorded_send _ _ _ T.to_one (struct_send (shape T) (search sendable, (search sendable, (search sendable, (h, ((place_send gm), (search sendable depth 20, tt))))))))

    pub book_sync : IsSync (book.the_row M B S A R Q P H W gb gm)
    book_sync = let T = book.the_type M B S A R Q P H W gb gm in recorded_sync _ _ _ T.to_one (struct_sync (shape T) (field_sync (slot.the_row M S A R Q P H W gm) (view.the_row M S A R Q P H W) (snapshot.the_row M) (law.the_row M) Heap.the_row (rule.ghosts M S A R Q P H W gm rule.no_dict rule.no_dict rule.no_dict rule.no_dict rule.no_dict rule.no_dict rule.no_dict rule.no_dict) heap.ghosts (slot_send gm) heap_sync (record { frees = heap_frees.frees }), (search sendable depth 20, tt)))
