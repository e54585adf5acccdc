-- The register map: document 01, "Registers". A file is a list of 512 bytes; reading and writing go through `place_of`.
-- Assumes nothing.
use Rattle.std.specs.Prelude.{Bool, cond, ◌||◌, List, ℕ, ◌+◌, ◌*◌, ◌/◌, ◌%◌, leb, eqb, get_or, set}
use Rattle.alu.specs.Alu.{Flags, Result, with_bit}
use Rattle.alu.specs.Alu.Flags.{none, only_z, only_c, all}
use Rattle.machine.specs.declared.place.Place.{Place}
use Rattle.machine.specs.declared.place.Place.TheVariants.{Nowhere, Counter, Latch, Cell}
use Rattle.machine.specs.State.{plus}

abbrev pub STATUS : ℕ
STATUS = 0x03

abbrev pub FSR : ℕ
FSR = 0x04

abbrev pub PCLATH : ℕ
PCLATH = 0x0A

abbrev pub INTCON : ℕ
INTCON = 0x0B

-- "Direct address: RP1, RP0 (STATUS bits 6, 5), then f. Indirect, when f is 0: IRP (STATUS bit 7), then FSR."
unfoldable pub address_of : List ℕ → ℕ → ℕ
address_of file f =
    cond (eqb f 0)
    (get_or file STATUS 0 / 128 * 256 + get_or file FSR 0)
    (get_or file STATUS 0 / 32 % 4 * 128 + f)

-- "q in {0x03 STATUS, 0x04 FSR, 0x0A PCLATH, 0x0B INTCON} or q from 0x70 to 0x7F uses cell q for all banks."
unfoldable pub shared : ℕ → Bool
shared q = eqb q STATUS || (eqb q FSR || (eqb q PCLATH || (eqb q INTCON || leb 0x70 q)))

-- Where an address leads, q being its low seven bits. q = 0 comes from indirection alone. q = 0x02 is PCL, which has no
-- cell. PCLATH is called the latch: of its cell five bits are read and written. Every other address is a plain byte.
unfoldable pub place_of : ℕ → Place
place_of a =
    let q = a % 128 in
    cond (eqb q 0) Nowhere
    (cond (eqb q 0x02) Counter
    (cond (eqb q PCLATH) Latch
    (cond (shared q) (Cell q) (Cell a))))

-- The cell of a place; 0 for one that has none.
abbrev pub cell_of : Place → ℕ
cell_of Nowhere = 0
cell_of Counter = 0
cell_of Latch = PCLATH
cell_of (Cell n) = n

-- Where the register f of an instruction lies.
abbrev pub place_at : List ℕ → ℕ → Place
place_at file f = place_of (address_of file f)

-- The byte that an instruction at address a reads. "Reading PCL gives the low byte of a+1."
abbrev pub read_at : ℕ → List ℕ → Place → ℕ
read_at a file Nowhere = 0
read_at a file Counter = plus a 1 % 256
read_at a file Latch = get_or file PCLATH 0 % 32
read_at a file (Cell n) = get_or file n 0

-- The file after a byte is written; one written to PCL goes to the counter (`counter_from`) and leaves the file.
abbrev pub write_at : List ℕ → Place → ℕ → List ℕ
write_at file Nowhere v = file
write_at file Counter v = file
write_at file Latch v = set file PCLATH (v % 32)
write_at file (Cell n) v = set file n v

-- "Writing it makes the program counter PCLATH (five bits) times 256 plus the byte."
abbrev pub counter_from : List ℕ → ℕ → ℕ
counter_from file v = get_or file PCLATH 0 % 32 * 256 + v % 256

-- PCLATH bits 4 and 3, which CALL and GOTO take above k.
abbrev pub page_of : List ℕ → ℕ
page_of file = get_or file PCLATH 0 % 32 / 8

-- The file with the affected flags in STATUS: Z, DC and C are its bits 2, 1 and 0.
abbrev pub flag : Flags → List ℕ → List ℕ
flag none file = file
flag (only_z z) file = set file STATUS (with_bit 2 z (get_or file STATUS 0))
flag (only_c c) file = set file STATUS (with_bit 0 c (get_or file STATUS 0))
flag (all z dc c) file = set file STATUS (get_or file STATUS 0 / 8 * 8 + z * 4 + dc * 2 + c)

-- A result in its place: "STATUS as destination: all eight bits are written, then the affected flags are overwritten".
unfoldable pub stored : List ℕ → Place → Result → List ℕ
stored file p r = flag r.flags (write_at file p r.value)
