-- Small captures and what becomes of them, as one table: the text; the refusal's number (0: accepted) and its place; the dump.
--   device   every source reaches output 0     examples, AsPrinted   the table and the claim     rooms, AsWritten   the same of buffers
--   wired_device, DeviceFollows   devices whose bridge lines follow inputs 2 and 3     DumpAgainThere   on one of them each dump is dumped again
use Rattle.std.specs.Prelude.{ℕ, ◌≡◌, Bool, true, false, cond, List, [], ◌∷◌, ◌++◌, map, length, replicate}
use Prim.Native.Char.{code}
use Rattle.bits.specs.Bits.{digit}
use Rattle.text.specs.Ascii.{ascii}
use Rattle.device.specs.declared.Device.{Device}
use Rattle.capture_commands.specs.Commands.{outcome_number, accepted}
use Rattle.capture_dump.specs.Dump.{opening}
use Rattle.capture_run.specs.Run.{begin_of, lines_of}
use Rattle.capture_promises.specs.Promises.{wired_of, Follows}
use Rattle.capture.specs.Replay.{text_outcome, text_place, dump_of, replay_of, buffer_of}

-- No source is masked, each goes to output 0 in level mode but source 3, which is in edge mode, and the gate is open.
unfoldable pub device : Device
device = record {
  core0 = record { status = 0; enable = 0; mail = replicate 4 0 };
  core1 = record { status = 0; enable = 0; mail = replicate 4 0 };
  tree = record {
    bridge = record { mask = 0; msi = 0; edge = 8; latch = 0; soft = 0; level = 0; auto = 0; turn = 0; routes = replicate 64 1 };
    gate = true;
    node = record { enable = 0; edge = 0; latch = 0; level = 0; routes = replicate 32 0 };
  };
  second_open = false;
}

pub record Shown : Type 0 where
  pub number : ℕ
  pub place : ℕ
  pub dump : List ℕ

abbrev pub shown : ℕ → ℕ → List ℕ → Shown
shown number place dump = record { number = number; place = place; dump = dump }

abbrev pub replayed : List ℕ → Shown
replayed s = shown (outcome_number (text_outcome s)) (text_place s) (cond (accepted (text_outcome s)) (dump_of s device) [])

pub record Example : Type 0 where
  pub text : List ℕ
  pub answer : Shown

abbrev example : List ℕ → Shown → Example
example text answer = record { text = text; answer = answer }

-- Accepted, with these lines behind the opening.
abbrev right : List ℕ → List ℕ → Example
right text lines = example text (shown 0 (length text) (opening ++ lines))

abbrev wrong : List ℕ → ℕ → ℕ → Example
wrong text number place = example text (shown number place [])

unfoldable pub examples : List Example
examples =
    -- a file with no mark gives the declarations alone
    right (ascii "") []
    ∷ right (ascii "$var wire 1 ! in0 $end 1!") []
    -- the first mark shows all four lines, the second none, the third the one that differs
    ∷ right (ascii "$var wire 1 ! in0 $end #5 1! #006 #7 0!") (ascii "#5\n0a\n0b\n1c\n0d\n#7\n0c\n")
    -- a mark that repeats the time before it continues it; a glitch inside a time shows in an edge source alone
    ∷ right (ascii "$var wire 1 ! in0 $end $var wire 1 \" in3 $end #1 #2 1! #2 0! #3 1\" 0\" #3 #4") (ascii "#1\n0a\n0b\n0c\n0d\n#3\n1c\n")
    -- changes before the first mark are seen in its values
    ∷ right (ascii "$var wire 1 ! in0 $end $dumpvars 1! $end #0") (ascii "#0\n0a\n0b\n1c\n0d\n")
    -- 11 and 10, the first in file order
    ∷ wrong (ascii "#5 #4 foo") 11 3
    ∷ wrong (ascii "#5 foo #4") 10 3
    -- an undeclared id, an x on an input, a width of two bits, a second wire of one name
    ∷ wrong (ascii "#1 1!") 10 3
    ∷ wrong (ascii "$var wire 1 ! in0 $end x!") 10 23
    ∷ wrong (ascii "$var wire 2 ! in0 $end") 10 14
    ∷ wrong (ascii "$var wire 1 ! in0 $end $var wire 1 % in0 $end") 10 37
    -- text that is cut off shows at the end of the file
    ∷ wrong (ascii "$comment foo$end") 10 16
    ∷ wrong (ascii "#1 $dumpvars") 10 12
    ∷ []

abbrev pub AsPrinted : Type 0
AsPrinted = map (λ (e : Example). replayed e.text) examples ≡ map (λ (e : Example). e.answer) examples

-- ---- the buffer

-- A buffer of so many points, of which some are used; the number, the used length and the buffer after the replay of an empty capture, whose dump has 115 bytes.
pub record Room : Type 0 where
  pub size : ℕ
  pub used : ℕ
  pub number : ℕ
  pub after : ℕ
  pub buffer : List ℕ

abbrev points : ℕ → List ℕ
points n = replicate n (code ".")

abbrev room : ℕ → ℕ → ℕ → ℕ → List ℕ → Room
room size used number after buffer = record { size = size; used = used; number = number; after = after; buffer = buffer }

abbrev filled : Room → Room
filled r =
    let a = replay_of device [] (points r.size) r.used in
    room r.size r.used (outcome_number a.outcome) a.used (buffer_of device [] (points r.size) r.used)

unfoldable pub rooms : List Room
rooms =
    -- behind the used bytes; those beyond the dump stay
    room 120 3 0 118 (points 3 ++ opening ++ points 2)
    -- an exact fit fits, and one byte less does not
    ∷ room 118 3 0 118 (points 3 ++ opening)
    ∷ room 117 3 12 3 (points 117)
    -- the used length above the buffer's
    ∷ room 3 4 12 4 (points 3)
    ∷ []

abbrev pub AsWritten : Type 0
AsWritten = map filled rooms ≡ rooms

-- ---- devices that are wired so

-- Sources 2 and 3 alone are unmasked; 2 goes to output 0 and 3 to output 1. Enable lets bit 0 of Status through, which gives each core's IPI line.
unfoldable pub wired_device : Bool → Bool → Device
wired_device ipi0 ipi1 = record {
  core0 = record { status = digit ipi0; enable = 1; mail = replicate 4 0 };
  core1 = record { status = digit ipi1; enable = 1; mail = replicate 4 0 };
  tree = record {
    bridge = record { mask = 0xfffffffffffffff3; msi = 0; edge = 0; latch = 0; soft = 0; level = 0; auto = 0; turn = 0; routes = 0 ∷ 0 ∷ 1 ∷ 2 ∷ replicate 60 0 };
    gate = true;
    node = record { enable = 0; edge = 0; latch = 0; level = 0; routes = replicate 32 0 };
  };
  second_open = false;
}

-- Whatever a capture calls for, their lines br0 and br1 follow inputs 2 and 3, and the IPI lines stand as chosen.
abbrev pub DeviceFollows : Type 0
DeviceFollows = (ipi0 ipi1 : Bool) → Follows (wired_device ipi0 ipi1) ipi0 ipi1

-- So DumpAgain speaks of every dump: the device whose IPI lines stand as the dump's.
abbrev pub DumpAgainThere : Type 0
DumpAgainThere = (d : Device) (s : List ℕ) → dump_of (wired_of s d) (wired_device (lines_of (begin_of d)).ipi0 (lines_of (begin_of d)).ipi1) ≡ dump_of s d
