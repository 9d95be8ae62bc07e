-- The body of a DeleteObjects, object by object.
use Rattle.std.proofs.Common.{◌≡◌, ◌==◌, ℕ, ◌<◌, ◌≤◌, inl, inr, List, [], ◌∷◌, ◌++◌, length, min, refl, sym, ◌∙◌, ap, subst, append_assoc, true, false, Bool, arith, Result, Ok, Err, Bor, codes, suc, zero}
use Rattle.std.proofs.Math.Nat.{min-eq_left, min-eq_right}
use Rattle.std.proofs.lemmas.Bool.{cases_lt}
use Rattle.std.proofs.lemmas.List.{append-nil, length-append, map-append}
use Rattle.xml_forms.specs.Forms.{Begins, Stops, Reads, Either, Exactly, Many, Skips, Word, Unique, Apart, Possible, Opens, nearer}
use Rattle.xml_forms.specs.Openings.{Opening}
use Rattle.xml_forms.specs.Runs.{has, Spaced}
use Rattle.xml_forms.specs.declared.class.Class.TheVariants.{Space}
use Rattle.xml_forms.proofs.lemmas.Choices.{either_unique}
use Rattle.xml_forms.proofs.lemmas.Elements.{exactly_unique, is_zero, not_zero}
use Rattle.xml_forms.proofs.lemmas.Manies.{apart_sym, apart_then, many_reads, many_some, many_stops_first, many_unique, same_reads, skips_more, skips_none}
use Rattle.xml_forms.proofs.lemmas.Openings.{document_breaks, document_reads, document_unique}
use Rattle.xml_forms.proofs.lemmas.Readers.{apart_either, apart_within, chosen_reads, either_reads, exactly_heads, nearer_past, nearer_value, opens_heads, spaced_exactly, spaced_some, spaced_unique, with_value}
use Rattle.xml_forms.proofs.lemmas.Sequence.{then_some, then_stops_first, then_unique}
use Rattle.xml_forms.proofs.lemmas.Wholes.{Stuck, stuck_behind, stuck_within, whole}
use Rattle.s3_bodies.specs.Delete.{Delete, DeleteEnd, DeleteInside, Deletion, IsDelete, Object, Quiet, QuietThen, delete_end, delete_start}
use Rattle.s3_bodies.specs.DeleteReaders.{AddsObjects, SkipsInside, texts_of}
use Rattle.s3_bodies.specs.RootEnd.{ClosesRoot, EndsRoot}
use Rattle.s3_bodies.proofs.ObjectLemmas.{object_apart, object_quiet, object_some, object_unique, quiet_apart, quiet_some, quiet_unique}

abbrev Texts : Type 0
Texts = List (List ℕ)

-- ---- the root's end

end_opens : (body : Deletion) → Opens (has Space) (Exactly body delete_end)
end_opens body = opens_heads (Exactly body delete_end) (codes "/Delete>") (exactly_heads body delete_end)

end_unique : (body : Deletion) → Unique (DeleteEnd body)
end_unique body = record {
  one = λ a b x y u v p q e. (spaced_unique (Exactly body delete_end) (end_opens body) (exactly_unique body delete_end)).one a b x y u v p.1 q.1 e;
}

end_some : (body : Deletion) → 0 < length body.0 → Possible (DeleteEnd body)
end_some body filled =
    let i = spaced_some (Exactly body delete_end) (record { value = body; word = delete_end; spells = (refl, refl) }) in
    record { value = i.value; word = i.word; spells = (filled, i.spells) }

end_reads : (body : Deletion) → 0 < length body.0 → (bytes : List ℕ) (r : Result (Unit {0} × List ℕ) ℕ) → Reads (Spaced (Word delete_end)) bytes r → Reads (DeleteEnd body) bytes (with_value body r)
end_reads body filled bytes r p =
    same_reads (Spaced (Exactly body delete_end)) (DeleteEnd body) (λ a w f. (filled, f)) (λ a w f. f.1) bytes (with_value body r) (spaced_exactly body delete_end bytes r p)

object_end : (body : Deletion) → Apart Object (DeleteEnd body)
object_end body = record {
  none = λ a b x y u v p q e. (object_apart (Exactly body delete_end) 47 (codes "Delete>") (exactly_heads body delete_end) (λ h. omega (arith, h))).none a b x y u v p q.1 e;
}

quiet_end : (body : Deletion) → Apart Quiet (DeleteEnd body)
quiet_end body = record {
  none = λ a b x y u v p q e. (quiet_apart (Exactly body delete_end) 47 (codes "Delete>") (exactly_heads body delete_end) (λ h. omega (arith, h))).none a b x y u v p q.1 e;
}

some : (n : ℕ) → false ≡ (n == 0) → 0 < n
some n e = let not_none = not_zero n e in cases n not_none
  where
    cases : (n : ℕ) → (n ≡ 0 → ⊥) → 0 < n
    cases zero h = absurd (h refl)
    cases (suc n) h = omega arith

-- ---- the objects behind what makes it quiet

filled_by : (before more : Texts) (text : List ℕ) → 0 < length (before ++ text ∷ more)
filled_by before more text = omega (arith, length-append before (text ∷ more))

abbrev last_of : Texts → Bool → Texts → Deletion → List ℕ → Type 0
last_of before quiet after = DeleteEnd (before ++ after, quiet)

abbrev After : Texts → Bool → Deletion → List ℕ → Type 0
After before quiet = Many Object (last_of before quiet)

after_some : (before : Texts) (quiet : Bool) → Possible (After before quiet)
after_some before quiet =
    let o = object_some in
    let i = end_some (before ++ o.value ∷ [], quiet) (filled_by before [] o.value) in
    record {
      value = i.value;
      word = o.word ++ i.word;
      spells = record { items = o.value ∷ []; inner = o.word; tail = i.word; spells = (o.word, [], o.spells, refl, sym (append-nil o.word)); tails = i.spells; at = refl };
    }

after_unique : (before : Texts) (quiet : Bool) → Unique (After before quiet)
after_unique before quiet = many_unique Object object_unique (last_of before quiet) (λ l. object_end (before ++ l, quiet)) (λ l. end_unique (before ++ l, quiet))

-- none is there, nor before it
after_none : (before : Texts) (quiet : Bool) (bytes : List ℕ) (left : ℕ) → length before ≡ 0 → Stops Object bytes left → Stops (After before quiet) bytes left
after_none before quiet bytes left none s =
    many_stops_first Object object_unique (last_of before quiet) (λ b w f. let some = f.0 in absurd (omega (arith, some, length-append before [])))
    (λ a. end_some (before ++ a ∷ [], quiet) (filled_by before [] a)) bytes left s

after_read : (none : Bool) (before after : Texts) (quiet : Bool) (bytes rest : List ℕ) (left : ℕ) → none ≡ (length (before ++ after) == 0) → Skips Object bytes after rest left
    → (r : Result (Unit {0} × List ℕ) ℕ) → EndsRoot delete_end none rest left r → Reads (After before quiet) bytes (with_value (before ++ after, quiet) r)
after_read true before [] quiet bytes rest left is s r e =
    let no_text = is_zero (length (before ++ [])) is in
    let same : bytes ≡ rest = s.at ∙ ap (λ i. i ++ rest) s.spells in
    subst (λ x. Reads (After before quiet) bytes (with_value (before ++ [], quiet) x)) (sym e)
    (after_none before quiet bytes left (omega (arith, no_text, length-append before [])) (subst (λ w. Stops Object w left) (sym same) s.stops))
after_read true before (text ∷ after) quiet bytes rest left is s r e =
    let no_text = is_zero (length (before ++ text ∷ after)) is in
    absurd (omega (arith, no_text, filled_by before after text))
after_read false before after quiet bytes rest left is s r e =
    subst (λ x. Reads (After before quiet) bytes x) (nearer_value (before ++ after, quiet) left e.0 ∙ ap (with_value (before ++ after, quiet)) (sym e.2))
    (many_reads Object object_unique (last_of before quiet) (λ l. object_end (before ++ l, quiet)) (λ a l. end_some (before ++ a ∷ l, quiet) (filled_by before l a)) bytes after rest left s
    (with_value (before ++ after, quiet) e.0) (end_reads (before ++ after, quiet) (some (length (before ++ after)) is) rest e.0 e.1))

-- ---- what stands in the root

abbrev Choice : Texts → Deletion → List ℕ → Type 0
Choice before = Either (QuietThen before) (DeleteEnd (before, false))

quiet_then_some : (before : Texts) → Possible (QuietThen before)
quiet_then_some before = then_some Quiet (After before) quiet_some (after_some before)

choice_some : (before : Texts) → Possible (Choice before)
choice_some before = let i = quiet_then_some before in record { value = i.value; word = i.word; spells = inl i.spells }

choice_unique : (before : Texts) → Unique (Choice before)
choice_unique before = either_unique (QuietThen before) (DeleteEnd (before, false)) (then_unique Quiet (After before) quiet_unique (after_unique before)) (end_unique (before, false))
    (apart_sym (DeleteEnd (before, false)) (QuietThen before) (apart_then (DeleteEnd (before, false)) Quiet (After before) (apart_sym Quiet (DeleteEnd (before, false)) (quiet_end (before, false)))))

choice_apart : (before : Texts) → Apart Object (Choice before)
choice_apart before = apart_either Object (QuietThen before) (DeleteEnd (before, false)) (apart_then Object Quiet (After before) object_quiet) (object_end (before, false))

inside_some : Possible DeleteInside
inside_some = many_some Object Choice (choice_some [])

inside_unique : Unique DeleteInside
inside_unique = many_unique Object object_unique Choice choice_apart choice_unique

objects_then : (bytes : List ℕ) (before : Texts) (rest : List ℕ) (left : ℕ) → Skips Object bytes before rest left → (r : Result (Deletion × List ℕ) ℕ) → Reads (Choice before) rest r → Reads DeleteInside bytes (nearer (Err left) r)
objects_then = many_reads Object object_unique Choice choice_apart (λ a l. choice_some (a ∷ l))

quiet_then_stops : (before : Texts) (bytes : List ℕ) (left : ℕ) → Stops Quiet bytes left → Stops (QuietThen before) bytes left
quiet_then_stops before bytes left s = then_stops_first Quiet (After before) (after_some before) bytes left s

-- nothing makes it quiet, and no object is there
none_there : (before : Texts) (bytes : List ℕ) (left : ℕ) → length before ≡ 0 → Stops Quiet bytes left → Stops (Choice before) bytes left
none_there before bytes left none s =
    same_reads (QuietThen before) (Choice before) (λ a w f. inl f) (λ a w f. elim f [ inl g ↦ g | inr g ↦ let some = g.0 in absurd (omega (arith, some, none)) ]) bytes (Err left)
    (quiet_then_stops before bytes left s)

nearest : (a b c : ℕ) → min a (min b c) ≡ min (min a b) c
nearest a b c = elim (cases_lt a b) [
  | inl less ↦
      let first : min a b ≡ a = min-eq_left (omega arith) in
      elim (cases_lt b c) [
        | inl below ↦ ap (min a) (min-eq_left (omega arith)) ∙ first ∙ sym (ap (λ z. min z c) first ∙ min-eq_left (omega arith))
        | inr above ↦ ap (min a) (min-eq_right above) ∙ sym (ap (λ z. min z c) first)
      ]
  | inr more ↦
      let first : min a b ≡ b = min-eq_right more in
      min-eq_right (least b c a more) ∙ sym (ap (λ z. min z c) first)
]
  where
    least : (b c a : ℕ) → b ≤ a → min b c ≤ a
    least b c a le = elim (cases_lt b c) [
      | inl below ↦ subst (λ z. z ≤ a) (sym (min-eq_left (omega arith))) le
      | inr above ↦ subst (λ z. z ≤ a) (sym (min-eq_right above)) (omega arith)
    ]

nearest_value : (body : Deletion) (a b : ℕ) (r : Result (Unit {0} × List ℕ) ℕ) → nearer (Err a) (nearer (Err b) (with_value body r)) ≡ with_value body (nearer (Err (min a b)) r)
nearest_value body a b (Ok x) = refl
nearest_value body a b (Err c) = ap (λ n. Err n) (nearest a b c)

-- nothing makes it quiet
plain_read : (none : Bool) (texts : Texts) (bytes rest : List ℕ) (object quiet : ℕ) → none ≡ (length texts == 0) → Skips Object bytes texts rest object → Stops Quiet rest quiet
    → (r : Result (Unit {0} × List ℕ) ℕ) → EndsRoot delete_end none rest (min object quiet) r → Reads DeleteInside bytes (with_value (texts, false) r)
plain_read true texts bytes rest object quiet is s q r e =
    subst (λ x. Reads DeleteInside bytes (with_value (texts, false) x)) (sym e)
    (objects_then bytes texts rest object s (Err quiet) (none_there texts rest quiet (is_zero (length texts) is) q))
plain_read false texts bytes rest object quiet is s q r e =
    subst (λ x. Reads DeleteInside bytes x) (nearest_value (texts, false) object quiet e.0 ∙ ap (with_value (texts, false)) (sym e.2))
    (objects_then bytes texts rest object s (nearer (Err quiet) (with_value (texts, false) e.0))
    (either_reads (QuietThen texts) (DeleteEnd (texts, false)) rest (Err quiet) (with_value (texts, false) e.0) (quiet_then_stops texts rest quiet q)
    (end_reads (texts, false) (some (length texts) is) rest e.0 e.1)))

-- something does
quiet_read : (none : Bool) (before after : Texts) (quiet : Bool) (bytes middle last rest : List ℕ) (object left : ℕ) → none ≡ (length (before ++ after) == 0) → Skips Object bytes before middle object
    → Begins Quiet middle quiet last → Skips Object last after rest left → (r : Result (Unit {0} × List ℕ) ℕ) → EndsRoot delete_end none rest left r
    → Reads DeleteInside bytes (with_value (before ++ after, quiet) r)
quiet_read none before after quiet bytes middle last rest object left is s p t r e =
    let behind = after_read none before after quiet last rest left is t r e in
    let found : Result (Deletion × List ℕ) ℕ = with_value (before ++ after, quiet) r in
    subst (λ x. Reads DeleteInside bytes x)
    (nearer_past object found
    (λ n is_n. let stop : Stops (After before quiet) last n = subst (λ x. Reads (After before quiet) last x) is_n behind in
    let long = ap length stop.at in
    let within = apart_within Object Quiet object_quiet middle last quiet object s.stops p in
    omega (arith, long, within, length-append stop.front stop.rest, stop.counts)))
    (objects_then bytes before middle object s found (chosen_reads Quiet (After before) (DeleteEnd (before, false)) quiet_unique (quiet_end (before, false)) middle last quiet p found behind))

inside_read : (none : Bool) (body : Deletion) (bytes rest : List ℕ) (left : ℕ) → none ≡ (length body.0 == 0) → SkipsInside bytes body rest left
    → (r : Result (Unit {0} × List ℕ) ℕ) → EndsRoot delete_end none rest left r → Reads DeleteInside bytes (with_value body r)
inside_read none body bytes rest left is (inl s) r e =
    subst (λ q. Reads DeleteInside bytes (with_value (body.0, q) r)) (sym s.4)
    (plain_read none body.0 bytes rest s.0 s.1 is s.2 s.3 r (subst (λ n. EndsRoot delete_end none rest n r) s.5 e))
inside_read none body bytes rest left is (inr s) r e =
    subst (λ t. Reads DeleteInside bytes (with_value (t, body.1) r)) (sym s.8)
    (quiet_read none s.0 s.1 body.1 bytes s.2 s.3 rest s.4 left (is ∙ ap (λ t. length t == 0) s.8) s.5 s.6 s.7 r e)

-- ---- a deletion

pub delete_breaks : (bytes : List ℕ) (left : ℕ) → Stops (Opening delete_start) bytes left → Stuck Delete bytes left
delete_breaks bytes left s = stuck_within Delete bytes left (document_breaks delete_start 68 (codes "elete") refl (λ h. omega (arith, h)) DeleteInside inside_some bytes left s)

delete_reads : (bytes inner attribute : List ℕ) → Begins (Opening delete_start) bytes attribute inner → (r : Result (Deletion × List ℕ) ℕ) → Reads DeleteInside inner r → Reads Delete bytes r
delete_reads = document_reads delete_start 68 (codes "elete") refl (λ h. omega (arith, h)) DeleteInside

pub delete_unique : Unique Delete
delete_unique = document_unique delete_start 68 (codes "elete") refl (λ h. omega (arith, h)) DeleteInside inside_unique

module _ (bytes inner attribute : List ℕ) (opens : Begins (Opening delete_start) bytes attribute inner) (none : Bool) (body : Deletion) (rest : List ℕ) (left : ℕ)
    (is : none ≡ (length body.0 == 0)) (skips : SkipsInside inner body rest left) where
  read_by_end : (r : Result (Unit {0} × List ℕ) ℕ) → EndsRoot delete_end none rest left r → Reads Delete bytes (with_value body r)
  read_by_end r e = delete_reads bytes inner attribute opens (with_value body r) (inside_read none body inner rest left is skips r e)

  pub deleted : ClosesRoot delete_end none rest left (Ok tt) → IsDelete body bytes
  deleted c = whole Delete bytes c.0 body (read_by_end (Ok (tt, c.0)) c.1) c.2

  pub closed_at : (stop : ℕ) → ClosesRoot delete_end none rest left (Err stop) → Stuck Delete bytes stop
  closed_at stop (inl e) = stuck_within Delete bytes stop (read_by_end (Err stop) e)
  closed_at stop (inr e) = stuck_behind Delete bytes delete_unique e.0 body stop (read_by_end (Ok (tt, e.0)) e.1) e.2

-- ---- the loop

abbrev Slices : Type 0
Slices = List (Bor (List ℕ))

-- what is found behind these texts, if more objects are read at the rest
abbrev pub Grows : Slices → List ℕ → Slices → List ℕ → Type 0
Grows have bytes texts rest = (more : Texts) (last : List ℕ) (left : ℕ) → Skips Object rest more last left → (all : Texts) × (texts_of texts ++ more ≡ texts_of have ++ all) × Skips Object bytes all last left

pub grows_first : (have : Slices) (bytes : List ℕ) → Grows have bytes have bytes
grows_first have bytes = λ more last left s. (more, refl, s)

pub grows_next : (have texts : Slices) (bytes rest after : List ℕ) (text : Bor (List ℕ)) → Grows have bytes texts rest → Begins Object rest text.now after → Grows have bytes (texts ++ text ∷ []) after
grows_next have texts bytes rest after text g p = λ more last left s.
    let h = g (text.now ∷ more) last left (skips_more Object rest after last text.now more left p s) in
    (h.0, ap (λ t. t ++ more) (map-append (λ t. t.now) texts (text ∷ [])) ∙ append_assoc (texts_of texts) (text.now ∷ []) more ∙ h.1, h.2)

pub grows_last : (have texts : Slices) (bytes rest : List ℕ) (left : ℕ) → Grows have bytes texts rest → Stops Object rest left → AddsObjects have bytes texts rest left
grows_last have texts bytes rest left g s =
    let h = g [] rest left (skips_none Object rest left s) in
    (h.0, sym (append-nil (texts_of texts)) ∙ h.1, h.2)

pub not_quiet : (have before : Slices) (bytes rest : List ℕ) (object quiet left : ℕ) → have ≡ [] → AddsObjects have bytes before rest object → Stops Quiet rest quiet → left ≡ min object quiet
    → SkipsInside bytes (texts_of before, false) rest left
not_quiet have before bytes rest object quiet left none s q e =
    inl (object, quiet, subst (λ t. Skips Object bytes t rest object) (sym (s.1 ∙ ap (λ h. texts_of h ++ s.0) none)) s.2, q, refl, e)

pub made_quiet : (have before all : Slices) (bytes middle last rest : List ℕ) (quiet : Bool) (object left : ℕ) → have ≡ [] → AddsObjects have bytes before middle object → Begins Quiet middle quiet last
    → AddsObjects before last all rest left → SkipsInside bytes (texts_of all, quiet) rest left
made_quiet have before all bytes middle last rest quiet object left none s p t =
    inr (texts_of before, t.0, middle, last, object, subst (λ x. Skips Object bytes x middle object) (sym (s.1 ∙ ap (λ h. texts_of h ++ s.0) none)) s.2, p, t.2, t.1)
