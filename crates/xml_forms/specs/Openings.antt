-- How a document begins: a declaration or none, and the root's tag (Extensible Markup Language 1.0, section 2.8). What of it is read is this profile's.
use Rattle.std.specs.Prelude.{◌≡◌, ℕ, ◌+◌, List, [], ◌∷◌, ◌++◌, None, false, slice_index, codes}
use Rattle.xml_forms.specs.Forms.{Word, Exactly, Then, Either}
use Rattle.xml_forms.specs.Runs.{Element, Spaced}
use Rattle.xml_forms.specs.declared.class.Class.TheVariants.{InDouble, InSingle}

-- no `?` in a text stands before a `>`
abbrev pub NoDeclarationEnd : List ℕ → Type 0
NoDeclarationEnd text = (k : ℕ) → slice_index text k ≡ 63 → slice_index text (k + 1) ≡ 62 → ⊥

-- a text up to the first `?>`; the text is the value
abbrev pub DeclarationText : List ℕ → List ℕ → Type 0
DeclarationText text bytes = NoDeclarationEnd text × (bytes ≡ text ++ 63 ∷ 62 ∷ [])

-- the end of the root's tag: behind one attribute, whose value is the value, or none
abbrev pub RootEnd : List ℕ → List ℕ → Type 0
RootEnd =
    Either (Exactly [] (codes ">"))
    (Either (Element (codes " xmlns=\"") InDouble false None (codes "\">")) (Element (codes " xmlns='") InSingle false None (codes "'>")))

-- white space and the root's tag; the name has its `<`
abbrev pub RootTag : List ℕ → List ℕ → List ℕ → Type 0
RootTag name = Spaced (Then (Word name) (λ _. RootEnd))

-- a declaration and the root's tag
abbrev pub Declared : List ℕ → List ℕ → List ℕ → Type 0
Declared name = Then (Word (codes "<?xml")) (λ _. Then DeclarationText (λ _. RootTag name))

-- how a document begins whose root has this name
abbrev pub Opening : List ℕ → List ℕ → List ℕ → Type 0
Opening name = Either (Declared name) (RootTag name)

-- a document: how it begins, and what stands in its root, up to the root's end
abbrev pub Document : {A : Type 0} → List ℕ → (A → List ℕ → Type 0) → A → List ℕ → Type 0
Document name inside = Then (Opening name) (λ _. inside)
