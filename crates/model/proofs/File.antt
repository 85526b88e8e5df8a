-- A whole model file. Assumes nothing.
--     reads_back      six layers that fit and go together are read back from their file
--     writes_back     a file that reads is the bytes of its layers
--     same_layers     layers that share a file are the same
use Rattle.std.specs.Prelude.{◌∷◌, ◌++◌, ◌≡◌}
use Rattle.rules.proofs.Common.{ℕ, false, not, List, [], refl, sym, ap, ◌∙◌, eqb, length}
use mathlib.Core.List.{append-nil}
use native.Mathlib.Omega.{arith}
use borrow.Author.Tests.{eqb-true, not-false}
use Rattle.model.specs.declared.Model.{Model}
use Rattle.model.specs.Reading.{Reading, Good, Refused}
use Rattle.rules.proofs.Refusals.{Clear, clear, by_rows}
use Rattle.model.specs.Layer.{Layer}
use Rattle.model.specs.Model.{kinds, read_layers, headers_at, model_of, counts_in, match_faults, read_of}
use Rattle.model.specs.Writer.{file_of}
use Rattle.model.specs.Laws.{layers_read}
use Rattle.model.proofs.Inverse.{FitAll, row_reads, row_fits, row_clear, by_layers}

-- six layers that go together, and their file
pub record Holds (ls : List Layer) (s : List ℕ) : Type 0 where
  pub fit : FitAll kinds ls
  pub match : Clear (match_faults (counts_in (model_of (headers_at 0 ls))) 0)
  pub file : s ≡ file_of ls

-- what is written reads back
pub reads_back : (ls : List Layer) (s : List ℕ) → Holds ls s → read_of s ≡ Good (model_of (headers_at 0 ls))
unfolding read_of
reads_back ls s h =
    let m = model_of (headers_at 0 ls) in
    let r = row_reads kinds ls [] h.fit in
    rw (h.file, ← append-nil (file_of ls))
    (row_clear _ 0 kinds (file_of ls ++ []) r.1
    ∙ rw r.0 (clear (λ n. Refused n 6) (Good m) (match_faults (counts_in m) 0) h.match))

pub layers_read_lem : (ls : List Layer) → FitAll kinds ls → layers_read (file_of ls) ≡ ls
layers_read_lem ls f = rw (append-nil (file_of ls)) at (ap (λ (r : List Layer × List ℕ). r.0)
    (row_reads kinds ls [] f).0)

-- layers that share a file are the same: no count, activation, weight or bias is lost
pub same_layers : (ls ls' : List Layer) → FitAll kinds ls → FitAll kinds ls' → file_of ls ≡ file_of ls' → ls ≡ ls'
same_layers ls ls' h h' e = sym (layers_read_lem ls h) ∙ ap layers_read e ∙ layers_read_lem ls' h'

-- what reads is written back
pub record Written (s : List ℕ) (m : Model) : Type 0 where
  pub model : model_of (headers_at 0 (layers_read s)) ≡ m
  pub holds : Holds (layers_read s) s

abbrev pub WrittenIf : List ℕ → Reading → Type 0
WrittenIf s (Good m) = Written s m
WrittenIf s (Refused n j) = Unit

none_left : (rest : List ℕ) → not (eqb (length rest) 0) ≡ false → rest ≡ []
none_left [] e = refl
none_left (x ∷ rest) e = absurd
    (let z = eqb-true (length (x ∷ rest)) 0 (not-false (eqb (length (x ∷ rest)) 0) e) in omega arith)

pub writes_back : (s : List ℕ) → WrittenIf s (read_of s)
unfolding read_of
writes_back s =
    let r = read_layers kinds s in
    let m = model_of (headers_at 0 r.0) in
    by_layers _ (WrittenIf s) 0 kinds s (λ n i. tt) (λ all.
    by_rows (λ n. Refused n 6) (Good m) (WrittenIf s) (match_faults (counts_in m) (length r.1)) (λ n. tt) (λ c.
    let f = row_fits kinds s all in
    record {
      model = refl;
      holds =
          record {
            fit = f.0;
            match = (refl, c.1);
            file = f.1 ∙ rw (none_left r.1 c.0) (append-nil (file_of r.0));
          };
    }))
