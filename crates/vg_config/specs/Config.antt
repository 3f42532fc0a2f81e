use Rattle.std.specs.Prelude.{ℕ, List, ◌++◌}
use Rattle.vg_numbers.specs.Numbers.{le}
use Rattle.vg_config.specs.declared.config.Config.{Config}

-- The 16 bytes of the device configuration (VIRTIO 1.2, 5.7.4, struct virtio_gpu_config), each field of four bytes, the lowest first.
unfoldable pub config_bytes : Config → List ℕ
config_bytes config =
    le 4 config.events_read
    ++ le 4 config.events_clear
    ++ le 4 config.num_scanouts
    ++ le 4 config.num_capsets
