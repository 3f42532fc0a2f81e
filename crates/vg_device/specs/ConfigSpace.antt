-- The configuration space of the device (VIRTIO 1.2, 5.7.4).
use Rattle.std.specs.Prelude.{length, if◌then◌else◌}
use Rattle.vg_config.specs.declared.config.Config.{Config}
use Rattle.vg_device.specs.State.{State}

-- The display event waits while the event bit is set; there are no sets of capabilities.
abbrev pub config_of : State → Config
config_of state = record {
  events_read = if state.plugs.changed then 1 else 0;
  events_clear = 0;
  num_scanouts = length state.setup.displays;
  num_capsets = 0;
}
