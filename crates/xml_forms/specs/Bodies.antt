-- Bodies: what a form is to the whole of some bytes, and how far bytes can be continued to a body.
use Rattle.std.specs.Prelude.{◌≡◌, ℕ, ◌≤◌, ◌<◌, true, List, ◌++◌, length, take, Result, Ok, Err}
use Rattle.std.specs.List.{list_all}
use Rattle.xml_forms.specs.Runs.{has, IsRun}
use Rattle.xml_forms.specs.declared.class.Class.TheVariants.{Space}

-- a spelling and white space behind it, and nothing else
pub record Whole {A : Type 0} (form : A → List ℕ → Type 0) (a : A) (bytes : List ℕ) : Type 0 where
  pub word : List ℕ
  pub tail : List ℕ
  pub spells : form a word
  pub spaces : list_all (has Space) tail ≡ true
  pub at : bytes ≡ word ++ tail

-- bytes are a body of some value
abbrev pub OfSome : {A : Type 0} → (A → List ℕ → Type 0) → List ℕ → Type 0
OfSome {A} body bytes = (a : A) × body a bytes

-- bytes are no body, and their first n are the most that can be continued to one
pub record NotABody (body : List ℕ → Type 0) (bytes : List ℕ) (n : ℕ) : Type 0 where
  pub none : body bytes → ⊥
  pub within : n ≤ length bytes
  pub lives : (more : List ℕ) × body (take n bytes ++ more)
  pub longest : (m : ℕ) (more : List ℕ) → n < m → m ≤ length bytes → body (take m bytes ++ more) → ⊥

-- nothing but white space is left, or so many bytes from the first one on that is none
abbrev pub OnlySpaceLeft : List ℕ → Result (Unit {0}) ℕ → Type 0
OnlySpaceLeft bytes (Ok u) = list_all (has Space) bytes ≡ true
OnlySpaceLeft bytes (Err left) = (run rest : List ℕ) × IsRun Space (length bytes) bytes run rest × (length rest ≡ left) × (0 < left)
