-- Recorded bytes as samples, and samples as bytes, as a WAV file has them: the low byte first, and the channels in
-- turn. A sample is a number from -32768 to 32767. A format is named by its bits: 16 and 24 are whole numbers, 32 is a
-- float, and 33 is a whole number of 32 bits.
use Rattle.std.specs.Prelude.{◌+◌, ◌-◌, ◌*◌, ◌/◌, ◌%◌, ◌≤◌, ◌<◌, ◌&&◌, ◌≡◌}
use Rattle.rules.specs.Common.{ℕ, min, Bool, cond, List, eqb, ltb, length}
use Rattle.rules.specs.Common.{pos, Float, binary32, nan}
use Rattle.rules.specs.Common.{inf, fin, of_int, le, neg, up, down, of_bits}
use Rattle.rules.specs.F32.{◌⊕◌, ◌⊗◌, ◌⊘◌, f32, at, nat_at}
use Rattle.rules.specs.Tab.{tab}
use Rattle.numbers.specs.Larger.{clamped}

-- ---- bytes to samples

-- The bytes of a sample in this format, or 0 if there is no such format.
abbrev pub width : ℕ → ℕ
width format = cond (eqb format 16) 2 (cond (eqb format 24) 3 (cond (eqb format 33) 4 (cond (eqb format 32) 4 0)))

-- Two bytes from place a on, the low byte first.
abbrev pub two_bytes_at : List ℕ → ℕ → ℕ
two_bytes_at bytes a = nat_at bytes a + 256 * nat_at bytes (a + 1)

-- Three bytes from place a on, the low byte first.
abbrev pub three_bytes_at : List ℕ → ℕ → ℕ
three_bytes_at bytes a = two_bytes_at bytes a + 65536 * nat_at bytes (a + 2)

-- Four bytes from place a on, the low byte first.
abbrev pub four_bytes_at : List ℕ → ℕ → ℕ
four_bytes_at bytes a = three_bytes_at bytes a + 16777216 * nat_at bytes (a + 3)

-- Two's complement: n if it is below `half`, and otherwise n minus twice `half`.
unfoldable pub signed : ℕ → ℕ → Float
signed half n = cond (ltb n half) (of_int binary32 (pos n)) (neg (of_int binary32 (pos (2 * half - n))))

-- Neither a NaN nor an infinity: at least the lowest f32 and at most the highest.
abbrev pub finite : Float → Bool
finite y = le (neg (f32 0x7F7FFFFF)) y && le y (f32 0x7F7FFFFF)

-- The number, moved to the nearer end if it is outside `low` to `high`. A NaN and an infinity stay: a call refuses them
-- with 9.
unfoldable pub clipped : Float → Float → Float → Float
clipped low high y = cond (finite y) (clamped y low high) y

-- Clipped to the range of a sample, -32768 to 32767.
abbrev pub as_sample : Float → Float
as_sample y = clipped (neg (f32 0x47000000)) (f32 0x46FFFE00) y

-- A whole number of 32 bits divided by 65,536: the upper two bytes are the whole part, and the lower two the fraction.
-- Each part is exact, so the sum is rounded only once.
unfoldable pub halves : List ℕ → ℕ → Float
unfolding signed
halves bytes a =
    signed 32768 (two_bytes_at bytes (a + 2)) ⊕ of_int binary32 (pos (two_bytes_at bytes a)) ⊘ f32 0x47800000

-- The sample whose bytes begin at place a. With 24 bits the lowest byte is a fraction. A float has full scale at 1: it
-- is clipped to -1 and 32767 / 32768, and then scaled.
unfoldable pub number_at : ℕ → List ℕ → ℕ → Float
unfolding signed clipped halves
number_at format bytes a =
    cond (eqb format 16) (signed 32768 (two_bytes_at bytes a))
    (cond (eqb format 24) (as_sample (signed 8388608 (three_bytes_at bytes a) ⊘ f32 0x43800000))
    (cond (eqb format 33) (as_sample (halves bytes a))
    (f32 0x47000000 ⊗ clipped (neg (f32 0x3F800000)) (f32 0x3F7FFE00) (of_bits binary32 (four_bytes_at bytes a)))))

-- The place of sample i of a channel, if `channels` channels take turns.
abbrev pub sample_place : ℕ → ℕ → ℕ → ℕ → ℕ
sample_place format channels channel i = (i * channels + channel) * width format

-- The first n samples of one channel.
unfoldable pub unpacked : ℕ → List ℕ → ℕ → ℕ → ℕ → List Float
unfolding number_at
unpacked n bytes format channels channel = tab n (λ i. number_at format bytes (sample_place format channels channel i))

-- The arguments fit.
pub record UnpackFits (out bytes format channels channel : ℕ) : Type 0 where
  -- There is such a format.
  pub known : 0 < width format
  -- There are at most 65,535 channels.
  pub many : channels ≤ 65535
  -- The channel is one of them.
  pub among : channel < channels
  -- There are as many bytes as the samples of all channels have.
  pub size : bytes ≡ out * (channels * width format)

-- ---- samples to bytes

-- a / b rounded to the nearest whole number; a tie goes away from zero.
abbrev pub away : ℕ → ℕ → ℕ
away a b = (2 * a + b) / (2 * b)

-- The nearest whole number from -32768 to 32767, as two bytes hold it: a negative one plus 65,536. A tie goes away from
-- zero. A NaN gives 0.
unfoldable pub nearest16 : Float → ℕ
nearest16 nan = 0
nearest16 (inf s) = cond s 32768 32767
nearest16 (fin s m e) = let r = away (m * up e) (down e) in cond s ((65536 - min r 32768) % 65536) (min r 32767)

-- The low byte (j = 0) or the high byte (j = 1) of a 16-bit number.
abbrev pub byte_of : ℕ → ℕ → ℕ
byte_of n j = cond (eqb j 0) (n % 256) (n / 256)

-- Samples as 16-bit bytes, the low byte first.
unfoldable pub packed : List Float → List ℕ
unfolding nearest16
packed samples = tab (2 * length samples) (λ k. byte_of (nearest16 (at samples (k / 2))) (k % 2))

-- The lengths fit: two bytes for each sample.
pub record PackFits (out samples : ℕ) : Type 0 where
  -- The bytes.
  pub size : out ≡ 2 * samples
