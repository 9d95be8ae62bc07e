-- How a document begins.
use Rattle.std.proofs.Common.{◌≡◌, ◌≢◌, ℕ, List, [], ◌∷◌, ◌++◌, length, inl, refl, sym, ◌∙◌, ap, true, false, Bool, arith, Result, Err, None, codes, append_assoc, ◌&&◌}
use Rattle.std.specs.List.{list_all}
use Rattle.std.proofs.lemmas.List.{get_or_past}
use Rattle.xml_forms.specs.Forms.{Begins, Stops, Reads, Either, Then, Word, Exactly, RunThen, Unique, Apart, Possible, Opens}
use Rattle.xml_forms.specs.Runs.{has, IsRun, Sized, Element}
use Rattle.xml_forms.specs.Openings.{Declared, Document, DeclarationText, Opening, RootEnd, RootTag}
use Rattle.xml_forms.specs.declared.class.Class.TheVariants.{Space, InDouble, InSingle}
use Rattle.xml_forms.proofs.lemmas.Sequence.{then_stops_first, then_stops, then_unique, word_unique}
use Rattle.xml_forms.proofs.lemmas.Runs.{ran_unique}
use Rattle.xml_forms.proofs.lemmas.Choices.{either_unique, Heads, heads_apart, then_heads}
use Rattle.xml_forms.proofs.lemmas.Elements.{element_unique, exactly_unique}
use Rattle.xml_forms.proofs.lemmas.DeclarationTexts.{declaration_text_unique}
use Rattle.xml_forms.proofs.lemmas.Readers.{any_run, apart_either, exactly_heads, spaced_reads, then_reads, word_heads}

abbrev double : List ℕ → List ℕ → Type 0
double = Element (codes " xmlns=\"") InDouble false None (codes "\">")

abbrev single : List ℕ → List ℕ → Type 0
single = Element (codes " xmlns='") InSingle false None (codes "'>")

double_heads : Heads double (codes " xmlns=\"")
double_heads = then_heads (Word (codes " xmlns=\"")) (λ u. RunThen (has InDouble) (Sized false None) (λ run. Exactly run (codes "\">"))) (codes " xmlns=\"") (word_heads (codes " xmlns=\""))

single_heads : Heads single (codes " xmlns='")
single_heads = then_heads (Word (codes " xmlns='")) (λ u. RunThen (has InSingle) (Sized false None) (λ run. Exactly run (codes "'>"))) (codes " xmlns='") (word_heads (codes " xmlns='"))

pub root_end_unique : Unique RootEnd
root_end_unique =
    either_unique (Exactly [] (codes ">")) (Either double single) (exactly_unique [] (codes ">"))
    (either_unique double single (element_unique InDouble false None tt (codes "\">") (34, codes ">", refl, refl) (codes " xmlns=\"")) (element_unique InSingle false None tt (codes "'>") (39, codes ">", refl, refl) (codes " xmlns='"))
    (heads_apart double single (codes " xmlns=") [] [] 34 39 double_heads single_heads (λ h. omega (arith, h))))
    (apart_either (Exactly [] (codes ">")) double single
    (heads_apart (Exactly [] (codes ">")) double [] [] (codes "xmlns=\"") 62 32 (exactly_heads [] (codes ">")) double_heads (λ h. omega (arith, h)))
    (heads_apart (Exactly [] (codes ">")) single [] [] (codes "xmlns='") 62 32 (exactly_heads [] (codes ">")) single_heads (λ h. omega (arith, h))))

root_end_some : Possible RootEnd
root_end_some = record { value = []; word = codes ">"; spells = inl (refl, refl) }

declaration_text_none : DeclarationText [] (codes "?>")
declaration_text_none = ((λ k a b. let none : ◌≡◌ {A = ℕ} 0 63 = sym (get_or_past [] k 0 (omega arith)) ∙ a in omega (arith, none)), refl)

both_first : (a b : Bool) → (a && b) ≡ true → a ≡ true
both_first true b e = refl
both_first false b e = e

module _ (name t : List ℕ) (is : name ≡ 60 ∷ t) where
  abbrev tagged : List ℕ → List ℕ → Type 0
  tagged = Then (Word name) (λ _. RootEnd)

  tagged_opens : Opens (has Space) tagged
  tagged_opens = record { at = λ b word f. (60, t ++ f.tail, f.at ∙ ap (λ h. h ++ f.tail) (f.heads ∙ is), refl) }

  pub tag_breaks : (bytes run rest : List ℕ) (left : ℕ) → IsRun Space (length bytes) bytes run rest → Stops (Word name) rest left → Stops (RootTag name) bytes left
  tag_breaks bytes run rest left space s = spaced_reads tagged tagged_opens bytes run rest space (Err left) (then_stops_first (Word name) (λ _. RootEnd) (λ _. root_end_some) rest left s)

  pub tag_reads : (bytes run rest last : List ℕ) → IsRun Space (length bytes) bytes run rest → Begins (Word name) rest tt last → (r : Result (List ℕ × List ℕ) ℕ) → Reads RootEnd last r → Reads (RootTag name) bytes r
  tag_reads bytes run rest last space p r q = spaced_reads tagged tagged_opens bytes run rest space r (then_reads (Word name) (λ _. RootEnd) (word_unique name) rest last tt p r q)

  pub tag_unique : Unique (RootTag name)
  tag_unique = ran_unique (has Space) (Sized false None) (λ _. tagged) (λ _. tagged_opens) (λ _. then_unique (Word name) (λ _. RootEnd) (word_unique name) (λ _. root_end_unique))

tag_some : (name : List ℕ) → Possible (RootTag name)
tag_some name = record {
  value = [];
  word = name ++ codes ">";
  spells = record {
    run = [];
    tail = name ++ codes ">";
    passes = refl;
    is_allowed = any_run [];
    at = refl;
    tails = record { value = tt; head = name; tail = codes ">"; heads = refl; tails = inl (refl, refl); at = refl };
  };
}

declaration_text_some : (name : List ℕ) → Possible (Then DeclarationText (λ _. RootTag name))
declaration_text_some name = let i = tag_some name in record { value = i.value; word = codes "?>" ++ i.word; spells = record { value = []; head = codes "?>"; tail = i.word; heads = declaration_text_none; tails = i.spells; at = refl } }

pub declared_breaks : (name bytes : List ℕ) (left : ℕ) → Stops (Word (codes "<?xml")) bytes left → Stops (Declared name) bytes left
declared_breaks name bytes left s = then_stops_first (Word (codes "<?xml")) (λ _. Then DeclarationText (λ _. RootTag name)) (λ _. declaration_text_some name) bytes left s

pub declared_open : (name bytes rest : List ℕ) (left : ℕ) → Begins (Word (codes "<?xml")) bytes tt rest → Stops DeclarationText rest left → Stops (Declared name) bytes left
declared_open name bytes rest left p s =
    then_stops (Word (codes "<?xml")) (λ _. Then DeclarationText (λ _. RootTag name)) (word_unique (codes "<?xml")) bytes rest tt left p (then_stops_first DeclarationText (λ _. RootTag name) (λ _. tag_some name) rest left s)

pub declared_reads : (name bytes rest inner text : List ℕ) → Begins (Word (codes "<?xml")) bytes tt rest → Begins DeclarationText rest text inner → (r : Result (List ℕ × List ℕ) ℕ) → Reads (RootTag name) inner r → Reads (Declared name) bytes r
declared_reads name bytes rest inner text p q r s =
    then_reads (Word (codes "<?xml")) (λ _. Then DeclarationText (λ _. RootTag name)) (word_unique (codes "<?xml")) bytes rest tt p r (then_reads DeclarationText (λ _. RootTag name) declaration_text_unique rest inner text q r s)

-- a root's tag begins with white space or with its name, a declaration with `<?`
spaces_apart : (d : ℕ) (run u v : List ℕ) → d ≢ 63 → list_all (has Space) run ≡ true → codes "<?xml" ++ u ≡ run ++ 60 ∷ d ∷ v → ⊥
spaces_apart d [] u v differs passes e = let h : 63 ≡ d = cc e in differs (sym h)
spaces_apart d (c ∷ run) u v differs passes e =
    let c_is : 60 ≡ c = cc e in
    let first : has Space c ≡ true = both_first (has Space c) (list_all (has Space) run) passes in
    let not_so : false ≡ true = ap (has Space) c_is ∙ first in
    cc not_so

module _ (name : List ℕ) (d : ℕ) (t : List ℕ) (is : name ≡ 60 ∷ d ∷ t) (differs : d ≢ 63) where
  declared_apart : Apart (Declared name) (RootTag name)
  declared_apart = record {
    none = λ a b x y u v p q e.
        let g = q.tails in
        spaces_apart d q.run (p.tail ++ u) (t ++ (g.tail ++ v)) differs q.passes
        (ap (λ h. h ++ (p.tail ++ u)) (sym p.heads) ∙ sym (append_assoc p.head p.tail u) ∙ ap (λ w. w ++ u) (sym p.at) ∙ e ∙ ap (λ w. w ++ v) q.at ∙ append_assoc q.run q.tail v
        ∙ ap (λ h. q.run ++ (h ++ v)) g.at ∙ ap (λ w. q.run ++ w) (append_assoc g.head g.tail v) ∙ ap (λ h. q.run ++ (h ++ (g.tail ++ v))) (g.heads ∙ is));
  }

  pub opening_unique : Unique (Opening name)
  opening_unique = either_unique (Declared name) (RootTag name)
      (then_unique (Word (codes "<?xml")) (λ _. Then DeclarationText (λ _. RootTag name)) (word_unique (codes "<?xml")) (λ _. then_unique DeclarationText (λ _. RootTag name) declaration_text_unique (λ _. tag_unique name (d ∷ t) is)))
      (tag_unique name (d ∷ t) is) declared_apart

  module _ {A : Type 0} (inside : A → List ℕ → Type 0) where
    pub document_breaks : Possible inside → (bytes : List ℕ) (left : ℕ) → Stops (Opening name) bytes left → Stops (Document name inside) bytes left
    document_breaks some bytes left s = then_stops_first (Opening name) (λ _. inside) (λ _. some) bytes left s

    pub document_reads : (bytes rest attribute : List ℕ) → Begins (Opening name) bytes attribute rest → (r : Result (A × List ℕ) ℕ) → Reads inside rest r → Reads (Document name inside) bytes r
    document_reads bytes rest attribute p r q = then_reads (Opening name) (λ _. inside) opening_unique bytes rest attribute p r q

    pub document_unique : Unique inside → Unique (Document name inside)
    document_unique unique = then_unique (Opening name) (λ _. inside) opening_unique (λ _. unique)
