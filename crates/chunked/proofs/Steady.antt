-- Readers that go on as they began: what they found, and where they failed, stays where bytes follow; and where bytes are missing, some
-- would do.
use Rattle.std.proofs.Common.{◌≡◌, ℕ, ◌⊎◌, inl, inr, List, [], ◌++◌, Result, Ok, Err, refl, sym, ◌∙◌, ap, append_assoc}
use Rattle.chunked.specs.declared.fault.ChunkedFault.{ChunkedFault}
use Rattle.chunked.specs.declared.fault.ChunkedFault.TheVariants.{IncompleteBody, InvalidRequest}
use Rattle.chunked.specs.Reading.{◌>>=◌}
use Rattle.chunked.proofs.Chains.{ok_same, bind_ok, bind_err}

-- bytes are missing, or can't be there
abbrev pub IsPlain : ChunkedFault → Type 0
IsPlain e = (e ≡ IncompleteBody) ⊎ (e ≡ InvalidRequest)

pub record Steady {A : Type 0} (read : List ℕ → Result (A × List ℕ) ChunkedFault) : Type 0 where
  pub grows : (bytes more : List ℕ) (found : A) (rest : List ℕ) → read bytes ≡ Ok (found, rest) → read (bytes ++ more) ≡ Ok (found, rest ++ more)
  pub dead : (bytes more : List ℕ) → read bytes ≡ Err InvalidRequest → read (bytes ++ more) ≡ Err InvalidRequest
  pub alive : (bytes : List ℕ) → read bytes ≡ Err IncompleteBody → (more : List ℕ) × (found : A) × (read (bytes ++ more) ≡ Ok (found, []))
  pub plain : (bytes : List ℕ) (e : ChunkedFault) → read bytes ≡ Err e → IsPlain e

-- some bytes are read as a whole
pub record Possible {A : Type 0} (read : List ℕ → Result (A × List ℕ) ChunkedFault) : Type 0 where
  pub word : List ℕ
  pub value : A
  pub reads : read word ≡ Ok (value, [])

-- nothing is read
pub pure_steady : {A : Type 0} (value : A) → Steady (λ (bytes : List ℕ). Ok (value, bytes))
pure_steady {A} value = record {
  grows = λ bytes more found rest h.
      let same : ◌≡◌ {A = A × List ℕ} (value, bytes) (found, rest) = ok_same (value, bytes) (found, rest) h in
      ap (λ (p : A × List ℕ). let r : Result (A × List ℕ) ChunkedFault = Ok (p.0, p.1 ++ more) in r) same;
  dead = λ bytes more h. cc;
  alive = λ bytes h. cc;
  plain = λ bytes e h. cc;
}

pub pure_possible : {A : Type 0} (value : A) → Possible (λ (bytes : List ℕ). Ok (value, bytes))
pure_possible value = record { word = []; value = value; reads = refl }

module _ {A B : Type 0} (r : List ℕ → Result (A × List ℕ) ChunkedFault) (s : A → List ℕ → Result (B × List ℕ) ChunkedFault) where
  pub both_steady : Steady r → ((a : A) → Steady (s a)) → ((a : A) → Possible (s a)) → Steady (λ bytes. r bytes >>= λ x. s x.0 x.1)
  both_steady p q some = record {
    grows = λ bytes more found rest h.
        let x = bind_ok (r bytes) (λ x. s x.0 x.1) (found, rest) h in
        ap (λ v. v >>= λ x. s x.0 x.1) (p.grows bytes more x.0.0 x.0.1 x.1) ∙ (q x.0.0).grows x.0.1 more found rest x.2;
    dead = λ bytes more h.
        elim (bind_err (r bytes) (λ x. s x.0 x.1) InvalidRequest h) [
          | inl e ↦ ap (λ v. v >>= λ x. s x.0 x.1) (p.dead bytes more e)
          | inr x ↦ ap (λ v. v >>= λ x. s x.0 x.1) (p.grows bytes more x.0.0 x.0.1 x.1) ∙ (q x.0.0).dead x.0.1 more x.2
        ];
    alive = λ bytes h.
        elim (bind_err (r bytes) (λ x. s x.0 x.1) IncompleteBody h) [
          | inl e ↦
              let f = p.alive bytes e in
              let g = some f.1 in (
                f.0 ++ g.word,
                g.value,
                ap (λ b. r b >>= λ x. s x.0 x.1) (sym (append_assoc bytes f.0 g.word))
                    ∙ ap (λ v. v >>= λ x. s x.0 x.1) (p.grows (bytes ++ f.0) g.word f.1 [] f.2) ∙ g.reads,
              )
          | inr x ↦
              let g = (q x.0.0).alive x.0.1 x.2 in
              (g.0, g.1, ap (λ v. v >>= λ x. s x.0 x.1) (p.grows bytes g.0 x.0.0 x.0.1 x.1) ∙ g.2)
        ];
    plain = λ bytes e h.
        elim (bind_err (r bytes) (λ x. s x.0 x.1) e h) [
          | inl k ↦ p.plain bytes e k
          | inr x ↦ (q x.0.0).plain x.0.1 e x.2
        ];
  }

  pub both_possible : Steady r → Possible r → ((a : A) → Possible (s a)) → Possible (λ bytes. r bytes >>= λ x. s x.0 x.1)
  both_possible p some next =
      let g = next some.value in
      record {
        word = some.word ++ g.word;
        value = g.value;
        reads = ap (λ v. v >>= λ x. s x.0 x.1) (p.grows some.word g.word some.value [] some.reads) ∙ g.reads;
      }
