-- What holds of layers that the writer accepts. Assumes nothing.
--     accepted        no refusal: each layer's table is clear, the layers go together, and the buffer is long enough
--     few_given       the counts that are added up are below 128
--     bytes_given     each of the shapes' numbers is a byte
use Rattle.std.specs.Prelude.{◌+◌, ◌*◌, ◌≤◌, ◌∷◌, ◌++◌, ◌≡◌}
use Rattle.rules.proofs.Common.{ℕ, zero, suc, false, List, [], map, sym, ap, ◌∙◌, ltb}
use Rattle.rules.proofs.Common.{length, get_or, take, drop}
use Rattle.rules.proofs.Common.{length-drop, length-append}
use mathlib.Core.List.{append-nil, append_assoc}
use native.Mathlib.Nat.{zero-add}
use native.Mathlib.Omega.{arith}
use borrow.Author.Tests.{ltb-false, eq-eqb}
use lib.Seq.{get_or-drop}
use Rattle.rules.specs.Lists.{Bytes, sum}
use Rattle.rules.specs.Refusals.{Row, ◌when◌}
use Rattle.rules.specs.Leaf.{◌leaving◌}
use Rattle.rules.proofs.Refusals.{Clear, clear, cleared, due}
use Rattle.model.specs.declared.Kind.{Kind}
use Rattle.model.specs.Layer.{activation_of, activation_number}
use Rattle.model.specs.Model.{kinds, match_faults}
use Rattle.model.specs.Writer.{arrays_of, layers_given, file_of, layer_faults, in_layer, row_faults, counts_given}
use Rattle.model.specs.Writer.{writer_faults, write_model}
use Rattle.model.specs.Private.{fault_in, Few, header_bytes, layer_bytes, three_bytes, overwritten, Put}
use Rattle.model.proofs.Rows.{Some, shifted_clear, clear_both}
use Rattle.model.proofs.Inverse.{number_of}

-- ---- from the tables

-- each layer's table is clear
abbrev pub EachClear : List Kind → List ℕ → List ℕ → Type 0
EachClear [] s ns = Unit
EachClear (k ∷ ks) s ns =
    Clear (layer_faults k (get_or s 0 0) (get_or s 1 0) (get_or s 2 0) (take 3 ns))
    × EachClear ks (drop 3 s) (drop 3 ns)

each_clear : (j : ℕ) (ks : List Kind) (s ns : List ℕ) → Clear (row_faults j ks s ns) → EachClear ks s ns
unfolding row_faults
each_clear j [] s ns c = tt
each_clear j (k ∷ ks) s ns c =
    let rows = layer_faults k (get_or s 0 0) (get_or s 1 0) (get_or s 2 0) (take 3 ns) in
    let both = clear_both (in_layer j rows) (row_faults (suc j) ks (drop 3 s) (drop 3 ns)) c in
    (shifted_clear j rows both.0, each_clear (suc j) ks (drop 3 s) (drop 3 ns) both.1)

module _ (s ns : List ℕ) (file buffer : ℕ) where
  abbrev last : List Row
  last = 24 when ltb buffer file ∷ []

  abbrev together : List Row
  together = match_faults (counts_given kinds s) 0

  pub bad_rows : {r : ℕ} → r ≡ fault_in (row_faults 0 kinds s ns) → Some r
      → r ≡ fault_in (writer_faults s ns file buffer)
  unfolding writer_faults row_faults
  bad_rows e some = sym (due (λ r. r) _ (row_faults 0 kinds s ns) e some)

  pub clear_rows : {r : ℕ} → r ≡ fault_in (row_faults 0 kinds s ns) → r ≡ 0 → Clear (row_faults 0 kinds s ns)
  unfolding row_faults
  clear_rows e none = cleared (row_faults 0 kinds s ns) tt (sym e ∙ none)

  pub bad_model : Clear (row_faults 0 kinds s ns) → {r : ℕ} → r ≡ fault_in (in_layer 6 together) → Some r
      → r ≡ fault_in (writer_faults s ns file buffer)
  unfolding writer_faults row_faults
  bad_model c e some = sym (clear (λ r. r) _ (row_faults 0 kinds s ns) c ∙ due (λ r. r) _ (in_layer 6 together) e some)

  pub good_model : Clear (row_faults 0 kinds s ns) → {r : ℕ} → r ≡ fault_in (in_layer 6 together) → r ≡ 0
      → fault_in (writer_faults s ns file buffer) ≡ fault_in (in_layer 6 last)
  unfolding writer_faults row_faults
  good_model c e none =
      clear (λ r. r) _ (row_faults 0 kinds s ns) c
      ∙ clear (λ r. r) _ (in_layer 6 together) (cleared (in_layer 6 together) tt (sym e ∙ none))

  pub few_given : Clear (row_faults 0 kinds s ns) → Few (counts_given kinds s)
  unfolding counts_given
  few_given c =
      let a = each_clear 0 kinds s ns c in
      record {
        dense = omega (arith, ltb-false 127 (get_or s 1 0) a.0.1.0);
        vad = omega (arith, ltb-false 127 (get_or (drop 3 s) 1 0) a.1.0.1.0);
        noise = omega (arith, ltb-false 127 (get_or (drop 3 (drop 3 s)) 1 0) a.1.1.0.1.0);
      }

  -- no refusal at all
  pub record Accepted : Type 0 where
    pub layers : EachClear kinds s ns
    pub together : Clear (match_faults (counts_given kinds s) 0)
    pub enough : file ≤ buffer

  pub accepted : Clear (writer_faults s ns file buffer) → Accepted
  unfolding writer_faults
  accepted c =
      let both = clear_both (row_faults 0 kinds s ns) (in_layer 6 (together ++ last)) c in
      let more = clear_both (in_layer 6 together) (in_layer 6 last) both.1 in
      record {
        layers = each_clear 0 kinds s ns both.0;
        together = shifted_clear 6 together more.0;
        enough = ltb-false buffer file more.1.0;
      }

-- ---- the numbers

pub bytes_given : (ks : List Kind) (s ns : List ℕ) → length s ≡ 3 * length ks → EachClear ks s ns → Bytes s
bytes_given [] [] ns e c i = omega arith
bytes_given [] (x ∷ s) ns e c i = absurd (omega arith)
bytes_given (k ∷ ks) s ns e c zero = omega (arith, ltb-false 127 (get_or s 0 0) c.0.0)
bytes_given (k ∷ ks) s ns e c (suc zero) = omega (arith, ltb-false 127 (get_or s 1 0) c.0.1.0)
bytes_given (k ∷ ks) s ns e c (suc (suc zero)) = omega (arith, ltb-false 2 (get_or s 2 0) c.0.1.1.0)
bytes_given (k ∷ ks) s ns e c (suc (suc (suc i))) =
    let past : suc (suc (suc i)) ≡ 3 + i = omega arith in
    rw (past, ← get_or-drop 3 s i 0) (bytes_given ks (drop 3 s) (drop 3 ns) (simp length-drop (omega arith)) c.1 i)

-- ---- the bytes

length_layer : (s : List ℕ) (at : ℕ) (w r b : List ℕ)
    → length (layer_bytes s at w r b) ≡ 3 + (length w + (length r + length b))
unfolding layer_bytes header_bytes
length_layer s at w r b = simp length-append (omega arith)

-- the arrays, by their names
pub record Arrays : Type 0 where
  pub w0 : List ℕ
  pub b0 : List ℕ
  pub w1 : List ℕ
  pub r1 : List ℕ
  pub b1 : List ℕ
  pub w2 : List ℕ
  pub r2 : List ℕ
  pub b2 : List ℕ
  pub w3 : List ℕ
  pub r3 : List ℕ
  pub b3 : List ℕ
  pub w4 : List ℕ
  pub b4 : List ℕ
  pub w5 : List ℕ
  pub b5 : List ℕ

module _ (s : List ℕ) (x : Arrays) where
  abbrev pub arrays : List (List ℕ)
  arrays =
      arrays_of x.w0 x.b0 x.w1 x.r1 x.b1 x.w2 x.r2 x.b2 x.w3 x.r3 x.b3 x.w4 x.b4
      x.w5 x.b5

  abbrev pub head : List ℕ
  head = three_bytes s 0 x.w0 [] x.b0 x.w1 x.r1 x.b1 x.w2 x.r2 x.b2

  abbrev pub tail : List ℕ
  tail = three_bytes s 9 x.w3 x.r3 x.b3 x.w4 [] x.b4 x.w5 [] x.b5

  abbrev rows : ℕ → List Row
  rows buffer = writer_faults s (map length arrays) (18 + sum (map length arrays)) buffer

  length_halves : length (head ++ tail) ≡ 18 + sum (map length arrays)
  unfolding three_bytes
  length_halves = simp (length-append, length_layer) (omega arith)

  length_file : length (file_of (layers_given kinds s arrays)) ≡ 18 + sum (map length arrays)
  length_file = simp length-append (omega arith)

  numbered : (s : List ℕ) → ltb 2 (get_or s 2 0) ≡ false
      → activation_number (activation_of (get_or s 2 0)) ≡ get_or s 2 0
  numbered s e = number_of (get_or s 2 0) (ltb-false 2 (get_or s 2 0) e)

  -- the file is what was put
  halves : EachClear kinds s (map length arrays) → file_of (layers_given kinds s arrays) ≡ head ++ tail
  unfolding three_bytes layer_bytes header_bytes
  halves c =
      let n1 = simp get_or-drop at (numbered (drop 3 s) c.1.0.1.1.0) in
      let n2 = simp get_or-drop at (numbered (drop 3 (drop 3 s)) c.1.1.0.1.1.0) in
      let n3 = simp get_or-drop at (numbered (drop 3 (drop 3 (drop 3 s))) c.1.1.1.0.1.1.0) in
      let n4 = simp get_or-drop at (numbered (drop 3 (drop 3 (drop 3 (drop 3 s)))) c.1.1.1.1.0.1.1.0) in
      let n5 =
      simp get_or-drop at (numbered (drop 3 (drop 3 (drop 3 (drop 3 (drop 3 s))))) c.1.1.1.1.1.0.1.1.0) in
      simp (get_or-drop, append-nil, append_assoc, numbered s c.0.1.1.0, n1, n2, n3, n4, n5)

  module _ (out : List ℕ) (eighteen : length s ≡ 18) {r : ℕ} (e : r ≡ fault_in (rows (length out))) where
    none_due : r ≡ 0 → Clear (rows (length out))
    unfolding writer_faults row_faults
    none_due none = cleared (rows (length out)) tt (sym e ∙ none)

    taken : r ≡ 0 → Accepted s (map length arrays) (18 + sum (map length arrays)) (length out)
    taken none = accepted _ _ _ _ (none_due none)

    -- what putting both halves asks for
    pub bytes_so : r ≡ 0 → Bytes s
    bytes_so none = bytes_given kinds s (map length arrays) eighteen (taken none).layers

    pub fits_so : r ≡ 0 → 0 + length (head ++ tail) ≤ length out
    fits_so none = omega (arith, length_halves, (taken none).enough)

    pub refused_so : Some r → (r leaving out) ≡ write_model s arrays out
    unfolding write_model
    refused_so some =
        rw (eq-eqb (length s) 18 eighteen, length_file) (sym (due (λ n. n leaving out) _ (rows (length out)) e some))

    pub written_so : r ≡ 0 → {next : ℕ} {after : List ℕ} → Put 0 (head ++ tail) out next after
        → (0 leaving after) ≡ write_model s arrays out
    unfolding write_model overwritten
    written_so none put =
        rw (eq-eqb (length s) 18 eighteen, length_file)
        (sym (clear (λ n. n leaving out) _ (rows (length out)) (none_due none)
        ∙ ap (λ (file : List ℕ). 0 leaving file ++ drop (length file) out) (halves (taken none).layers)
        ∙ rw (put.left, zero-add (length (head ++ tail)))))
