-- The worked cases of board files and sheets at the limits of what is right, put together from pieces.
use Rattle.std.specs.Prelude.{ℕ, List, [], ◌∷◌, ◌++◌, codes, replicate}
use Rattle.boardfile.specs.declared.fault.BoardFault.{BoardFault}
use Rattle.boardfile.specs.declared.fault.BoardFault.TheVariants.{Size, Mark, Counts, Tables, DeviceRecord, LinkRecord}
use Rattle.program.specs.declared.fault.ProgramFault.TheVariants.{Board as OfBoard, Sheet}
use Rattle.cases.specs.Boards.{three_devices, one_device}
use Rattle.cases.specs.Case.{Case, runs, is_refused}

-- a board file that is refused so, whatever the sheet
abbrev wrong : List ℕ → BoardFault → List ℕ → Case
wrong bytes fault shown = is_refused bytes [] (OfBoard fault) shown

-- ---- pieces

-- the mark, and the edition
abbrev slpb : List ℕ
slpb = 0x53 ∷ 0x4C ∷ 0x50 ∷ 0x42 ∷ 0x01 ∷ []

-- the rest of a trailer: one device in a register, no links, D = 16, L = 0
abbrev for_one : List ℕ
for_one = 0x01 ∷ 0x00 ∷ 0x00 ∷ 0x00 ∷ 0x00 ∷ 0x00 ∷ 0x00 ∷ 0x10 ∷ 0x00 ∷ 0x00 ∷ 0x00 ∷ []

-- two devices in registers, no links, D = 32, L = 0
abbrev for_two : List ℕ
for_two = 0x02 ∷ 0x00 ∷ 0x00 ∷ 0x00 ∷ 0x00 ∷ 0x00 ∷ 0x00 ∷ 0x20 ∷ 0x00 ∷ 0x00 ∷ 0x00 ∷ []

-- three devices in registers, no links, D = 48, L = 0
abbrev for_three : List ℕ
for_three = 0x03 ∷ 0x00 ∷ 0x00 ∷ 0x00 ∷ 0x00 ∷ 0x00 ∷ 0x00 ∷ 0x30 ∷ 0x00 ∷ 0x00 ∷ 0x00 ∷ []

-- two devices in registers, one link, D = 36, L = 4
abbrev for_linked : List ℕ
for_linked = 0x02 ∷ 0x00 ∷ 0x00 ∷ 0x01 ∷ 0x00 ∷ 0x00 ∷ 0x00 ∷ 0x24 ∷ 0x00 ∷ 0x04 ∷ 0x00 ∷ []

-- a device record behind its name: no parent, three zero bytes, the word 0
abbrev alone : List ℕ
alone = 0xFF ∷ 0x00 ∷ 0x00 ∷ 0x00 ∷ 0x00 ∷ 0x00 ∷ 0x00 ∷ 0x00 ∷ []

-- a name of one letter behind its letter
abbrev padding : List ℕ
padding = 0x00 ∷ 0x00 ∷ 0x00 ∷ 0x00 ∷ 0x00 ∷ 0x00 ∷ 0x00 ∷ []

abbrev a : List ℕ
a = 0x61 ∷ padding

abbrev b : List ℕ
b = 0x62 ∷ padding

abbrev c : List ℕ
c = 0x63 ∷ padding

-- a link: the consumer is device 0, the supplier device 1
abbrev link : List ℕ
link = 0x00 ∷ 0x01 ∷ 0x00 ∷ 0x00 ∷ []

-- ---- length, mark, counts and tables

abbrev pub wrong_trailers : List Case
wrong_trailers =
    wrong [] Size (codes "! 3 1 0\n")
    -- 4,097 bytes are too many, 4,096 are not
    ∷ wrong (replicate 4097 0) Size (codes "! 3 1 0\n")
    ∷ wrong (replicate 4096 0) (Mark 4080) (codes "! 3 2 4080\n")
    -- 16 bytes are enough, but they have no device
    ∷ wrong (slpb ++ replicate 11 0) (Counts 0) (codes "! 3 3 0\n")
    -- SLPC
    ∷ wrong (a ++ alone ++ (0x53 ∷ 0x4C ∷ 0x50 ∷ 0x43 ∷ 0x01 ∷ []) ++ for_one) (Mark 16) (codes "! 3 2 16\n")
    -- 32 + 32 + 1 devices are counted, and 200 + 56 + 1, which are 1 in eight bits
    ∷ wrong (a ++ alone ++ slpb ++ (0x20 ∷ 0x20 ∷ 0x01 ∷ 0x00 ∷ 0x00 ∷ 0x00 ∷ 0x00 ∷ 0x10 ∷ 0x00 ∷ 0x00 ∷ 0x00 ∷ [])) (Counts 16) (codes "! 3 3 16\n")
    ∷ wrong (a ++ alone ++ slpb ++ (0xC8 ∷ 0x38 ∷ 0x01 ∷ 0x00 ∷ 0x00 ∷ 0x00 ∷ 0x00 ∷ 0x10 ∷ 0x00 ∷ 0x00 ∷ 0x00 ∷ [])) (Counts 16) (codes "! 3 3 16\n")
    -- 257 links are counted
    ∷ wrong (a ++ alone ++ slpb ++ (0x01 ∷ 0x00 ∷ 0x00 ∷ 0x01 ∷ 0x01 ∷ 0x00 ∷ 0x00 ∷ 0x10 ∷ 0x00 ∷ 0x00 ∷ 0x00 ∷ [])) (Counts 16) (codes "! 3 3 16\n")
    -- 32 + 31 + 1 devices and 256 links may be counted, but the tables have no room for them
    ∷ wrong (a ++ alone ++ slpb ++ (0x20 ∷ 0x1F ∷ 0x01 ∷ 0x00 ∷ 0x00 ∷ 0x00 ∷ 0x00 ∷ 0x10 ∷ 0x00 ∷ 0x00 ∷ 0x00 ∷ [])) (Tables 16) (codes "! 3 4 16\n")
    ∷ wrong (a ++ alone ++ slpb ++ (0x01 ∷ 0x00 ∷ 0x00 ∷ 0x00 ∷ 0x01 ∷ 0x00 ∷ 0x00 ∷ 0x10 ∷ 0x00 ∷ 0x10 ∷ 0x00 ∷ [])) (Tables 16) (codes "! 3 4 16\n")
    -- bytes 10 and 11 of the trailer
    ∷ wrong (a ++ alone ++ slpb ++ (0x01 ∷ 0x00 ∷ 0x00 ∷ 0x00 ∷ 0x00 ∷ 0x01 ∷ 0x00 ∷ 0x10 ∷ 0x00 ∷ 0x00 ∷ 0x00 ∷ [])) (Counts 16) (codes "! 3 3 16\n")
    ∷ wrong (a ++ alone ++ slpb ++ (0x01 ∷ 0x00 ∷ 0x00 ∷ 0x00 ∷ 0x00 ∷ 0x00 ∷ 0x01 ∷ 0x10 ∷ 0x00 ∷ 0x00 ∷ 0x00 ∷ [])) (Counts 16) (codes "! 3 3 16\n")
    -- T is 16, and D is 17, and then 272
    ∷ wrong (a ++ alone ++ slpb ++ (0x01 ∷ 0x00 ∷ 0x00 ∷ 0x00 ∷ 0x00 ∷ 0x00 ∷ 0x00 ∷ 0x11 ∷ 0x00 ∷ 0x00 ∷ 0x00 ∷ [])) (Tables 16) (codes "! 3 4 16\n")
    ∷ wrong (a ++ alone ++ slpb ++ (0x01 ∷ 0x00 ∷ 0x00 ∷ 0x00 ∷ 0x00 ∷ 0x00 ∷ 0x00 ∷ 0x10 ∷ 0x01 ∷ 0x00 ∷ 0x00 ∷ [])) (Tables 16) (codes "! 3 4 16\n")
    -- L is 17, and then 256, also without links
    ∷ wrong (a ++ alone ++ slpb ++ (0x01 ∷ 0x00 ∷ 0x00 ∷ 0x00 ∷ 0x00 ∷ 0x00 ∷ 0x00 ∷ 0x10 ∷ 0x00 ∷ 0x11 ∷ 0x00 ∷ [])) (Tables 16) (codes "! 3 4 16\n")
    ∷ wrong (a ++ alone ++ slpb ++ (0x01 ∷ 0x00 ∷ 0x00 ∷ 0x00 ∷ 0x00 ∷ 0x00 ∷ 0x00 ∷ 0x10 ∷ 0x00 ∷ 0x00 ∷ 0x01 ∷ [])) (Tables 16) (codes "! 3 4 16\n")
    -- L is 3, and a link has 4 bytes
    ∷ wrong (a ++ alone ++ b ++ alone ++ link ++ slpb ++ (0x02 ∷ 0x00 ∷ 0x00 ∷ 0x01 ∷ 0x00 ∷ 0x00 ∷ 0x00 ∷ 0x24 ∷ 0x00 ∷ 0x03 ∷ 0x00 ∷ [])) (Tables 36) (codes "! 3 4 36\n")
    -- the last byte of the device table is the first of the link table
    ∷ wrong (a ++ alone ++ b ++ alone ++ (0x01 ∷ 0x00 ∷ 0x00 ∷ []) ++ slpb ++ (0x02 ∷ 0x00 ∷ 0x00 ∷ 0x01 ∷ 0x00 ∷ 0x00 ∷ 0x00 ∷ 0x23 ∷ 0x00 ∷ 0x04 ∷ 0x00 ∷ []))
    (Tables 35)
    (codes "! 3 4 35\n")
    -- and the other way round
    ∷ wrong ((0x00 ∷ 0x01 ∷ 0x00 ∷ []) ++ a ++ alone ++ b ++ alone ++ slpb ++ (0x02 ∷ 0x00 ∷ 0x00 ∷ 0x01 ∷ 0x00 ∷ 0x00 ∷ 0x00 ∷ 0x20 ∷ 0x00 ∷ 0x23 ∷ 0x00 ∷ []))
    (Tables 35)
    (codes "! 3 4 35\n")
    ∷ []

-- ---- records

abbrev pub wrong_records : List Case
wrong_records =
    -- bytes 9, 10 and 11 of a device record
    wrong (a ++ (0xFF ∷ 0x01 ∷ 0x00 ∷ 0x00 ∷ 0x00 ∷ 0x00 ∷ 0x00 ∷ 0x00 ∷ []) ++ slpb ++ for_one) (DeviceRecord 0) (codes "! 3 5 0\n")
    ∷ wrong (a ++ (0xFF ∷ 0x00 ∷ 0x01 ∷ 0x00 ∷ 0x00 ∷ 0x00 ∷ 0x00 ∷ 0x00 ∷ []) ++ slpb ++ for_one) (DeviceRecord 0) (codes "! 3 5 0\n")
    ∷ wrong (a ++ (0xFF ∷ 0x00 ∷ 0x00 ∷ 0x01 ∷ 0x00 ∷ 0x00 ∷ 0x00 ∷ 0x00 ∷ []) ++ slpb ++ for_one) (DeviceRecord 0) (codes "! 3 5 0\n")
    -- names that begin with no byte, 1, A, and the bytes before a and behind z
    ∷ wrong (0x00 ∷ padding ++ alone ++ slpb ++ for_one) (DeviceRecord 0) (codes "! 3 5 0\n")
    ∷ wrong (0x31 ∷ padding ++ alone ++ slpb ++ for_one) (DeviceRecord 0) (codes "! 3 5 0\n")
    ∷ wrong (0x41 ∷ padding ++ alone ++ slpb ++ for_one) (DeviceRecord 0) (codes "! 3 5 0\n")
    ∷ wrong (0x60 ∷ padding ++ alone ++ slpb ++ for_one) (DeviceRecord 0) (codes "! 3 5 0\n")
    ∷ wrong (0x7B ∷ padding ++ alone ++ slpb ++ for_one) (DeviceRecord 0) (codes "! 3 5 0\n")
    -- names that go on with the bytes before 0 and behind 9, and with a letter behind a zero byte
    ∷ wrong ((0x61 ∷ 0x2F ∷ 0x00 ∷ 0x00 ∷ 0x00 ∷ 0x00 ∷ 0x00 ∷ 0x00 ∷ []) ++ alone ++ slpb ++ for_one) (DeviceRecord 0) (codes "! 3 5 0\n")
    ∷ wrong ((0x61 ∷ 0x3A ∷ 0x00 ∷ 0x00 ∷ 0x00 ∷ 0x00 ∷ 0x00 ∷ 0x00 ∷ []) ++ alone ++ slpb ++ for_one) (DeviceRecord 0) (codes "! 3 5 0\n")
    ∷ wrong ((0x61 ∷ 0x00 ∷ 0x62 ∷ 0x00 ∷ 0x00 ∷ 0x00 ∷ 0x00 ∷ 0x00 ∷ []) ++ alone ++ slpb ++ for_one) (DeviceRecord 0) (codes "! 3 5 0\n")
    -- a parent that is the device itself, of one device and of two; n; 254
    ∷ wrong (a ++ (0x00 ∷ 0x00 ∷ 0x00 ∷ 0x00 ∷ 0x00 ∷ 0x00 ∷ 0x00 ∷ 0x00 ∷ []) ++ slpb ++ for_one) (DeviceRecord 0) (codes "! 3 5 0\n")
    ∷ wrong (a ++ alone ++ b ++ (0x01 ∷ 0x00 ∷ 0x00 ∷ 0x00 ∷ 0x00 ∷ 0x00 ∷ 0x00 ∷ 0x00 ∷ []) ++ slpb ++ for_two) (DeviceRecord 16) (codes "! 3 5 16\n")
    ∷ wrong (a ++ (0x02 ∷ 0x00 ∷ 0x00 ∷ 0x00 ∷ 0x00 ∷ 0x00 ∷ 0x00 ∷ 0x00 ∷ []) ++ b ++ alone ++ slpb ++ for_two) (DeviceRecord 0) (codes "! 3 5 0\n")
    ∷ wrong (a ++ alone ++ b ++ alone ++ c ++ (0xFE ∷ 0x00 ∷ 0x00 ∷ 0x00 ∷ 0x00 ∷ 0x00 ∷ 0x00 ∷ 0x00 ∷ []) ++ slpb ++ for_three)
    (DeviceRecord 32)
    (codes "! 3 5 32\n")
    -- a consumer and a supplier that are n
    ∷ wrong (a ++ alone ++ b ++ alone ++ (0x02 ∷ 0x01 ∷ 0x00 ∷ 0x00 ∷ []) ++ slpb ++ for_linked) (LinkRecord 32) (codes "! 3 6 32\n")
    ∷ wrong (a ++ alone ++ b ++ alone ++ (0x00 ∷ 0x02 ∷ 0x00 ∷ 0x00 ∷ []) ++ slpb ++ for_linked) (LinkRecord 32) (codes "! 3 6 32\n")
    -- bytes 2 and 3 of a link record
    ∷ wrong (a ++ alone ++ b ++ alone ++ (0x00 ∷ 0x01 ∷ 0x01 ∷ 0x00 ∷ []) ++ slpb ++ for_linked) (LinkRecord 32) (codes "! 3 6 32\n")
    ∷ wrong (a ++ alone ++ b ++ alone ++ (0x00 ∷ 0x01 ∷ 0x00 ∷ 0x01 ∷ []) ++ slpb ++ for_linked) (LinkRecord 32) (codes "! 3 6 32\n")
    ∷ []

-- ---- right, and sheets; in each run the first device of the order refuses to be prepared

-- two devices, of which device 1 refuses
abbrev b_refuses : List ℕ
b_refuses = 0 ∷ 0 ∷ 0 ∷ 0 ∷ 5 ∷ 0 ∷ 0 ∷ 0 ∷ []

abbrev b_refuses_text : List ℕ
b_refuses_text = codes "b prepare -5\n= fault 5 b prepare 0\n"

abbrev pub right_files : List Case
right_files =
    -- a name of eight bytes
    runs ((0x61 ∷ 0x7A ∷ 0x30 ∷ 0x39 ∷ 0x61 ∷ 0x7A ∷ 0x30 ∷ 0x39 ∷ []) ++ alone ++ slpb ++ for_one)
    (255 ∷ 0 ∷ 0 ∷ 0 ∷ [])
    (0 ∷ [])
    4
    (codes "az09az09 prepare -255\n= fault 255 az09az09 prepare 0\n")
    -- the device table begins where the link table ends
    ∷ runs (link ++ a ++ alone ++ b ++ alone ++ slpb ++ (0x02 ∷ 0x00 ∷ 0x00 ∷ 0x01 ∷ 0x00 ∷ 0x00 ∷ 0x00 ∷ 0x20 ∷ 0x00 ∷ 0x24 ∷ 0x00 ∷ []))
    b_refuses
    (1 ∷ 0 ∷ [])
    4
    b_refuses_text
    -- D is 292 and L is 260: both tables have 256 bytes behind them that belong to nothing
    ∷ runs (a ++ alone ++ b ++ alone ++ link ++ replicate 256 0 ++ slpb ++ (0x02 ∷ 0x00 ∷ 0x00 ∷ 0x01 ∷ 0x00 ∷ 0x00 ∷ 0x00 ∷ 0x24 ∷ 0x01 ∷ 0x04 ∷ 0x01 ∷ []))
    b_refuses
    (1 ∷ 0 ∷ [])
    4
    b_refuses_text
    -- a sheet that is a byte too long, and an empty one
    ∷ is_refused three_devices (0 ∷ 0 ∷ 0 ∷ 0 ∷ 0 ∷ 0 ∷ 0 ∷ 0 ∷ 0 ∷ 0 ∷ 0 ∷ 0 ∷ 0 ∷ []) Sheet (codes "! 3 8 0\n")
    ∷ is_refused one_device [] Sheet (codes "! 3 8 0\n")
    ∷ []
