-- A tag behind white space.
use Rattle.std.proofs.Common.{◌≡◌, ℕ, List, ◌∷◌, length, subst, Result}
use Rattle.xml_forms.specs.Forms.{Reads, Word}
use Rattle.xml_forms.specs.Runs.{IsRun, Spaced}
use Rattle.xml_forms.specs.declared.class.Class.TheVariants.{Space}
use Rattle.xml_forms.proofs.lemmas.Choices.{Heads}
use Rattle.xml_forms.proofs.lemmas.Readers.{opens_heads, spaced_reads, word_heads}

pub word_reads : (tag : List ℕ) → (t : List ℕ) × (tag ≡ 60 ∷ t) → (bytes run rest : List ℕ) → IsRun Space (length bytes) bytes run rest → (r : Result (Unit {0} × List ℕ) ℕ)
    → Reads (Word tag) rest r → Reads (Spaced (Word tag)) bytes r
word_reads tag h = spaced_reads (Word tag) (opens_heads (Word tag) h.0 (subst (λ w. Heads (Word tag) w) h.1 (word_heads tag)))
