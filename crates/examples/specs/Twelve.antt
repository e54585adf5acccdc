-- Document 01, "Twelve examples to prove, as one table": a line for each; the sheet's, example 12, follows with its
-- layer. The machine's are runs of one instruction by `run_of`, from a blank state and file but for what the example
-- names. Assumes nothing.
use Rattle.std.specs.Prelude.{◌≡◌, List, [], ◌∷◌, ◌++◌, ℕ, get_or, set, replicate, codes}
use Rattle.decoder.specs.declared.instruction.Dest.TheVariants.{File}
use Rattle.decoder.specs.declared.instruction.Instruction.{Instruction}
use Rattle.decoder.specs.declared.instruction.Instruction.TheVariants.{Nop, Xorlw, Movlw, Btfss, Addlw, Sublw, Subwf, Rlf, Clrf, Addwf, Call}
use Rattle.decoder.specs.Table.{decode_of}
use Rattle.decoder.specs.Table.Answer.{gives, refuses}
use Rattle.decoder.specs.Printed.{encode_of, word_of}
use Rattle.decoder.specs.Listing.{listing_of}
use Rattle.alu.specs.Alu.{bit_of}
use Rattle.machine.specs.declared.state.State.{State}
use Rattle.machine.specs.State.{blank_file}
use Rattle.machine.specs.Registers.{STATUS, PCLATH}
use Rattle.machine.specs.Run.{Left, ends, run_of}

-- A run of the one word at `a`, the words before it being NOP, with W, the depth and the file as given.
abbrev pub start : ℕ → ℕ → ℕ → State
start w a depth = record { w = w; counter = a; depth = depth; stack = replicate 8 0 }

abbrev pub runs : Instruction → ℕ → ℕ → ℕ → List ℕ → Left
runs i w a depth file = run_of (replicate a 0 ++ (word_of i ∷ [])) file (start w a depth) 1

-- What it leaves: the number and the counts, W, the counter, the depth, a byte of the file, and C, DC and Z of STATUS.
abbrev pub Done : Left → ℕ → Type 0
Done l cycles = (l.ran.number ≡ 0) × (l.ran.done ≡ 1) × (l.ran.cycles ≡ cycles)

abbrev pub w : Left → ℕ
w l = l.ran.state.w

abbrev pub at : ℕ → Left → ℕ
at n l = get_or l.file n 0

abbrev pub c : Left → ℕ
c l = bit_of 0 (at STATUS l)

abbrev pub dc : Left → ℕ
dc l = bit_of 1 (at STATUS l)

abbrev pub z : Left → ℕ
z l = bit_of 2 (at STATUS l)

-- The registers of the examples: f is 0x20.
abbrev pub f : ℕ
f = 0x20

abbrev pub holding : ℕ → ℕ → List ℕ
holding n v = set blank_file n v

pub record Examples : Type 0 where
  pub example_1 : (decode_of 0x0060 ≡ gives Nop) × (decode_of 0x0065 ≡ refuses 6)
  pub example_2 : (decode_of 0x3AFF ≡ gives (Xorlw 0xFF)) × (decode_of 0x3B00 ≡ refuses 6)
  pub example_3 : (decode_of 0x33FF ≡ gives (Movlw 0xFF)) × (encode_of (Movlw 0xFF) ≡ gives 0x30FF)
  pub example_4 : decode_of 0x1FFF ≡ gives (Btfss 0x7F 7)
  pub example_5 : let l = runs (Addlw 0x01) 0xFF 0 0 blank_file in Done l 1 × (w l ≡ 0) × (c l ≡ 1) × (dc l ≡ 1) × (z l ≡ 1)
  pub example_6_1 : let l = runs (Sublw 0x02) 1 0 0 blank_file in Done l 1 × (w l ≡ 0x01) × (c l ≡ 1)
  pub example_6_2 : let l = runs (Sublw 0x02) 2 0 0 blank_file in Done l 1 × (w l ≡ 0x00) × (c l ≡ 1)
  pub example_6_3 : let l = runs (Sublw 0x02) 3 0 0 blank_file in Done l 1 × (w l ≡ 0xFF) × (c l ≡ 0)
  pub example_7 : let l = runs (Subwf f File) 0x01 0 0 (holding f 0x10) in Done l 1 × (at f l ≡ 0x0F) × (c l ≡ 1) × (dc l ≡ 0)
  pub example_8 : let l = runs (Rlf f File) 0 0 0 (set (holding STATUS 1) f 0x3A) in Done l 1 × (at f l ≡ 0x75) × (c l ≡ 0)
  pub example_9 : let l = runs (Clrf 0x03) 0 0 0 (holding STATUS 0xFF) in Done l 1 × (at STATUS l ≡ 0x04)
  pub example_10 :
      let l = runs (Addwf 0x02 File) 0x10 0x08F6 0 (holding PCLATH 0x08) in
      Done l 2 × (l.ran.state.counter ≡ 0x0807) × (c l ≡ 1)
  pub example_11_7 : let l = runs (Call 0) 0 0 7 blank_file in Done l 2 × (l.ran.state.depth ≡ 8)
  pub example_11_8 : runs (Call 0) 0 0 8 blank_file ≡ ends (start 0 0 8) blank_file 0 0 7

-- The listing that document 01 prints in whole.
abbrev pub listed : List ℕ
listed =
    0x0C ∷ 0x00 ∷ 0x01 ∷ 0x00 ∷ 0x64 ∷ 0x00 ∷ 0x03 ∷ 0x20 ∷ 0x00 ∷ 0x28 ∷ 0xA0 ∷ 0x0B ∷ 0x08 ∷ 0x00 ∷ 0x00 ∷ 0x34 ∷ []

pub record Listing : Type 0 where
  pub prints :
      listing_of listed
      ≡ codes "0000 0064 CLRWDT\n0001 2003 CALL 0x003\n0002 2800 GOTO 0x000\n0003 0BA0 DECFSZ 0x20,1\n0004 0008 RETURN\n0005 3400 RETLW 0x00\n"
