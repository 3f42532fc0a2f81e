-- The kinds of commands and responses, by their names in the standard without its prefixes (VIRTIO 1.2, 5.7.6.7, enum
-- virtio_gpu_ctrl_type). An error's kind is its code.
use Rattle.std.specs.Prelude.{ℕ}

-- 2D commands, and those that go beside them
abbrev pub GET_DISPLAY_INFO : ℕ
GET_DISPLAY_INFO = 0x0100

abbrev pub RESOURCE_CREATE_2D : ℕ
RESOURCE_CREATE_2D = 0x0101

abbrev pub RESOURCE_UNREF : ℕ
RESOURCE_UNREF = 0x0102

abbrev pub SET_SCANOUT : ℕ
SET_SCANOUT = 0x0103

abbrev pub RESOURCE_FLUSH : ℕ
RESOURCE_FLUSH = 0x0104

abbrev pub TRANSFER_TO_HOST_2D : ℕ
TRANSFER_TO_HOST_2D = 0x0105

abbrev pub RESOURCE_ATTACH_BACKING : ℕ
RESOURCE_ATTACH_BACKING = 0x0106

abbrev pub RESOURCE_DETACH_BACKING : ℕ
RESOURCE_DETACH_BACKING = 0x0107

abbrev pub GET_CAPSET_INFO : ℕ
GET_CAPSET_INFO = 0x0108

abbrev pub GET_CAPSET : ℕ
GET_CAPSET = 0x0109

abbrev pub GET_EDID : ℕ
GET_EDID = 0x010a

abbrev pub RESOURCE_ASSIGN_UUID : ℕ
RESOURCE_ASSIGN_UUID = 0x010b

abbrev pub RESOURCE_CREATE_BLOB : ℕ
RESOURCE_CREATE_BLOB = 0x010c

abbrev pub SET_SCANOUT_BLOB : ℕ
SET_SCANOUT_BLOB = 0x010d

-- commands of contexts
abbrev pub CTX_CREATE : ℕ
CTX_CREATE = 0x0200

abbrev pub CTX_DESTROY : ℕ
CTX_DESTROY = 0x0201

abbrev pub CTX_ATTACH_RESOURCE : ℕ
CTX_ATTACH_RESOURCE = 0x0202

abbrev pub CTX_DETACH_RESOURCE : ℕ
CTX_DETACH_RESOURCE = 0x0203

abbrev pub SUBMIT_3D : ℕ
SUBMIT_3D = 0x0207

-- commands of the cursor queue
abbrev pub UPDATE_CURSOR : ℕ
UPDATE_CURSOR = 0x0300

abbrev pub MOVE_CURSOR : ℕ
MOVE_CURSOR = 0x0301

-- responses
abbrev pub OK_NODATA : ℕ
OK_NODATA = 0x1100

abbrev pub OK_DISPLAY_INFO : ℕ
OK_DISPLAY_INFO = 0x1101

abbrev pub OK_CAPSET_INFO : ℕ
OK_CAPSET_INFO = 0x1102

abbrev pub OK_CAPSET : ℕ
OK_CAPSET = 0x1103

abbrev pub OK_EDID : ℕ
OK_EDID = 0x1104

abbrev pub OK_RESOURCE_UUID : ℕ
OK_RESOURCE_UUID = 0x1105

-- errors
abbrev pub ERR_UNSPEC : ℕ
ERR_UNSPEC = 0x1200

abbrev pub ERR_OUT_OF_MEMORY : ℕ
ERR_OUT_OF_MEMORY = 0x1201

abbrev pub ERR_INVALID_SCANOUT_ID : ℕ
ERR_INVALID_SCANOUT_ID = 0x1202

abbrev pub ERR_INVALID_RESOURCE_ID : ℕ
ERR_INVALID_RESOURCE_ID = 0x1203

abbrev pub ERR_INVALID_CONTEXT_ID : ℕ
ERR_INVALID_CONTEXT_ID = 0x1204

abbrev pub ERR_INVALID_PARAMETER : ℕ
ERR_INVALID_PARAMETER = 0x1205
