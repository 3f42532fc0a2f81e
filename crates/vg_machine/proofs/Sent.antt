-- A display may go to another thread, and so may what it remembers of its jobs, and the acts, requests and replies of its histories.
use denote.RattleType.{RattleType}
use denote.Param.Send.{IsSend, sendable, recorded_send, struct_send, view_send}
use denote.Struct.Declared.{shape}
use Rattle.std.proofs.Crossing.{crosses}
use Rattle.std.proofs.MapsCrossing.{BTreeMap-send}
use Rattle.vg_list.specs.contracts.seq.Seq as seq
use Rattle.vg_pages.proofs.Sent.{pages_send}
use Rattle.vg_shared_bytes.proofs.Sent.{strips_send}
use Rattle.vg_scanout.specs.contracts.panel.Panel as panel
use Rattle.vg_scanout.specs.contracts.scanout.Frame as frame
use Rattle.vg_scanout.specs.contracts.scanout.Scanouts as scanouts
use Rattle.vg_scanout.specs.contracts.scanout.Scanouts.TheInside as scanouts_in
use Rattle.vg_client_holds.specs.contracts.act.Act as act
use Rattle.vg_client_holds.specs.contracts.act.ActReply as act_reply
use Rattle.vg_client_holds.specs.contracts.holds.Holds as holds
use Rattle.vg_device.specs.contracts.request.Request as request
use Rattle.vg_device.specs.contracts.request.Reply as reply
use Rattle.vg_device.specs.contracts.device.Device as device
use Rattle.vg_device.specs.contracts.device.Device.TheInside as device_in
use Rattle.vg_machine.specs.contracts.display.Display as display
use Rattle.vg_machine.specs.contracts.display.Display.TheInside as display_in
use Rattle.vg_machine.specs.contracts.loans.Loan as loan
use Rattle.vg_machine.specs.contracts.loans.Loans as loans

pub seq_send : (X : RattleType) → IsSend X → IsSend (seq.the_row X)
seq_send X x = search (sendable, crosses) depth 20

loan_send : IsSend loan.the_row
loan_send = search (sendable, crosses) depth 20

loans_send : IsSend loans.the_row
loans_send = search (sendable, crosses, loan_send) depth 20

frame_send : IsSend frame.the_row
frame_send = search (sendable, crosses, strips_send) depth 20

panel_send : IsSend panel.the_row
panel_send = search (sendable, crosses, strips_send) depth 20

scanouts_send : IsSend scanouts.the_row
scanouts_send = let S = scanouts_in.the_type in
    view_send _ _ _ _ _ (recorded_send _ _ _ S.to_one (struct_send (shape S) (search (sendable, crosses, panel_send) depth 20, (search (sendable, crosses, frame_send) depth 20, (search sendable, tt)))))

device_send : IsSend device.the_row
device_send = let D = device_in.the_type in
    view_send _ _ _ _ _ (recorded_send _ _ _ D.to_one (struct_send (shape D) (search (sendable, crosses, seq_send) depth 20, (search sendable, (pages_send, (search (sendable, crosses, BTreeMap-send, seq_send) depth 20, (search (sendable, crosses, BTreeMap-send) depth 20, (search (sendable, crosses, BTreeMap-send) depth 40, (search (sendable, crosses, BTreeMap-send) depth 40, (search (sendable, crosses, BTreeMap-send) depth 20, (search (sendable, crosses, seq_send) depth 20, (scanouts_send, (search (sendable, crosses, BTreeMap-send, seq_send) depth 20, (search (sendable, crosses) depth 20, tt))))))))))))))

pub display_send : IsSend display.the_row
display_send = let D = display_in.the_type in view_send _ _ _ _ _ (recorded_send _ _ _ D.to_one (struct_send (shape D) (device_send, (loans_send, tt))))

pub act_send : IsSend act.the_row
act_send = search (sendable, crosses) depth 40

pub act_reply_send : IsSend act_reply.the_row
act_reply_send = search (sendable, crosses) depth 40

pub request_send : IsSend request.the_row
request_send = let T = request.the_type in
    recorded_send _ _ _ T.to_one (struct_send (shape T) (search sendable depth 20, (search sendable, (search sendable, (search sendable, (search sendable depth 20, (search (sendable, crosses, seq_send) depth 20, tt)))))))

pub reply_send : IsSend reply.the_row
reply_send = search (sendable, crosses) depth 20

pub holds_send : IsSend holds.the_row
holds_send = let T = holds.the_type in
    recorded_send _ _ _ T.to_one (struct_send (shape T) (search sendable, (search sendable, (search sendable, (search sendable, (search (sendable, crosses, seq_send) depth 20, (search (sendable, crosses, seq_send) depth 20, (search (sendable, crosses, seq_send) depth 20, tt))))))))
