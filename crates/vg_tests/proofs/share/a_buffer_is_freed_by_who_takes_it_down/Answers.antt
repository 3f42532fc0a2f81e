-- A free that is refused keeps the pages of live buffers taken, and a release does.
use Rattle.vg_tests.proofs.share.a_buffer_is_freed_by_who_takes_it_down.Goals as goal

pub free-done-requires-2 : goal.free-done-requires-2
free-done-requires-2 g c = c.release-done.ensures.share c.free-done.new.pages c.free-done.ensures.share
