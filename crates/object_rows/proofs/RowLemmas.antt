-- A row and its object.
use Rattle.std.proofs.Common.{◌≡◌, ◌≢◌, true≢false, ◌∙◌, refl, sym, ap, subst, ℕ, ◌<◌, ◌≤◌, ◌^◌, true, false, List, [], length, Result, Ok, Err, nat_lt, sum_by, arith}
use Rattle.std.specs.List.{list_all}
use Rattle.std.proofs.lemmas.Bool.{and_parts, and_from, eqb-true, eq-eqb}
use Rattle.std.proofs.lemmas.Bool.Decides.{nat_tests}
use Rattle.std.proofs.lemmas.Slice.Eq.{bytes_eq-Decides}
use Rattle.slo_manifest.specs.declared.Segment.{Segment}
use Rattle.slo_manifest.specs.declared.manifest.Form.TheVariants.{Put}
use Rattle.slo_manifest.specs.declared.manifest.ManifestFault.{ManifestFault}
use Rattle.slo_manifest.specs.declared.manifest.ManifestFault.TheVariants as manifest
use Rattle.slo_manifest.specs.Manifest.{Reads}
use Rattle.slo_manifest.specs.Segments.{is_manifest}
use Rattle.slo_manifest.specs.Text.{manifest_text}
use Rattle.slo_manifest.specs.Laws.{OneAnswer, TextReadsBack}
use Rattle.swift_calls.specs.Account.{size_of}
use Rattle.swift_calls.specs.Bodies.{etag_of}
use Rattle.swift_calls.specs.declared.account.Content.{Content}
use Rattle.swift_calls.specs.declared.account.Content.TheVariants.{Plain, Segments}
use Rattle.swift_calls.specs.declared.account.Stored.{Stored}
use Rattle.object_rows.specs.Pieces.{is_short, joined, pieces_of}
use Rattle.object_rows.specs.Rows.{HasRow, IsRowContent, ReadsColumns, ReadsContent, ReadsList, ReadsRow, has_columns, row_of, kind_of, body_of}
use Rattle.object_rows.specs.declared.row.Row.{Row}
use Rattle.object_rows.specs.declared.row.RowFault.TheVariants.{Unread}
use Rattle.object_rows.proofs.PieceLemmas.{pieces_read, pieces_are_short}

abbrev Answer : Type 0
Answer = Result (List Segment) ManifestFault

same_list : (a b : List Segment) (x y : Answer) → x ≡ Ok a → y ≡ Ok b → x ≡ y → a ≡ b
same_list a b x y h k e = cc

no_fault : (fault : ManifestFault) (b : List Segment) (x y : Answer) → x ≡ Err fault → y ≡ Ok b → x ≡ y → ⊥
no_fault fault b x y h k e = cc

-- what is read of a text is the list whose text it is
is_the_list : OneAnswer → TextReadsBack → (body : List ℕ) (result : Result (List Segment) ManifestFault) → result ≢ Err manifest.Memory → Reads Put body result → (other : List Segment) → is_manifest other ≡ true → manifest_text Put other ≡ body → result ≡ Ok other
is_the_list one back body result kept reads other listed text =
    let due = one Put body in
    let P : List ℕ → Type 0 = λ t. Reads Put t (Ok other) in
    due.3 result kept reads ∙ sym (due.3 (Ok other) (λ e. cc) (subst P text (back Put other listed)))

pub segments_read : OneAnswer → TextReadsBack → (body : List ℕ) (segments : List Segment) → Reads Put body (Ok segments) → is_manifest segments ≡ true → ReadsList body (Ok segments)
segments_read one back body segments reads listed = (listed, λ other has text. same_list segments other (Ok segments) (Ok other) refl refl (is_the_list one back body (Ok segments) (λ e. cc) reads other has text))

pub segments_unread : OneAnswer → TextReadsBack → (body : List ℕ) (fault : ManifestFault) → fault ≢ manifest.Memory → Reads Put body (Err fault) → ReadsList body (Err Unread)
segments_unread one back body fault kept reads = λ other has text. no_fault fault other (Err fault) (Ok other) refl refl (is_the_list one back body (Err fault) (λ e. kept cc) reads other has text)

pub list_read : (body text : List ℕ) (segments : List Segment) → ReadsList body (Ok segments) → segments ≢ [] → nat_lt (sum_by (λ s. s.size) segments) (2 ^ 63) ≡ true
    → text ≡ manifest_text Put segments → text ≡ body → ReadsContent 1 body (Ok (Segments segments))
list_read body text segments reads filled small written same =
    (record { size = grind (arith, nat_tests, small); listed = (reads.0, filled) }, refl, sym written ∙ same, is_it)
  where
    is_it : (other : Content) → IsRowContent other → kind_of other ≡ 1 → body_of other ≡ body → Segments segments ≡ other
    is_it (Plain bytes) has kind text = absurd (omega (arith, kind))
    is_it (Segments other) has kind text = ap Segments (reads.1 other has.listed.0 text)

-- where the text of the list that was read is another, there is none
pub other_text : (body text : List ℕ) (segments : List Segment) → ReadsList body (Ok segments) → text ≡ manifest_text Put segments → text ≢ body → ReadsContent 1 body (Err Unread)
other_text body text segments reads written differs = none
  where
    none : (other : Content) → IsRowContent other → kind_of other ≡ 1 → body_of other ≡ body → ⊥
    none (Plain bytes) has kind text = omega (arith, kind)
    none (Segments other) has kind is = differs (written ∙ ap (manifest_text Put) (reads.1 other has.listed.0 is) ∙ is)

pub list_unread : (body : List ℕ) → ReadsList body (Err Unread) → ReadsContent 1 body (Err Unread)
list_unread body reads = none
  where
    none : (other : Content) → IsRowContent other → kind_of other ≡ 1 → body_of other ≡ body → ⊥
    none (Plain bytes) has kind text = omega (arith, kind)
    none (Segments other) has kind text = reads other has.listed.0 text

pub no_list : (body : List ℕ) (segments : List Segment) → ReadsList body (Ok segments) → segments ≡ [] → ReadsContent 1 body (Err Unread)
no_list body segments reads empty = none
  where
    none : (other : Content) → IsRowContent other → kind_of other ≡ 1 → body_of other ≡ body → ⊥
    none (Plain bytes) has kind text = omega (arith, kind)
    none (Segments other) has kind text = has.listed.1 (sym (reads.1 other has.listed.0 text) ∙ empty)

pub too_large : (body : List ℕ) (segments : List Segment) → ReadsList body (Ok segments) → nat_lt (sum_by (λ s. s.size) segments) (2 ^ 63) ≡ false → ReadsContent 1 body (Err Unread)
too_large body segments reads large = none
  where
    none : (other : Content) → IsRowContent other → kind_of other ≡ 1 → body_of other ≡ body → ⊥
    none (Plain bytes) has kind text = omega (arith, kind)
    none (Segments other) has kind text =
        let same = ap (sum_by (λ (s : Segment). s.size)) (reads.1 other has.listed.0 text) in
        grind (arith, nat_tests, has.size, same, large)

pub plain_read : (body : List ℕ) → length body < 2 ^ 63 → ReadsContent 0 body (Ok (Plain body))
plain_read body small = (record { size = small; listed = tt }, refl, refl, is_it)
  where
    is_it : (other : Content) → IsRowContent other → kind_of other ≡ 0 → body_of other ≡ body → Plain body ≡ other
    is_it (Plain other) has kind text = ap Plain (sym text)
    is_it (Segments other) has kind text = absurd (omega (arith, kind))

pub plain_unread : (body : List ℕ) → 2 ^ 63 ≤ length body → ReadsContent 0 body (Err Unread)
plain_unread body large = none
  where
    none : (other : Content) → IsRowContent other → kind_of other ≡ 0 → body_of other ≡ body → ⊥
    none (Plain other) has kind text = omega (arith, ap length text, has.size, large)
    none (Segments other) has kind text = omega (arith, kind)

pub other_kind : (kind : ℕ) (body : List ℕ) → kind ≢ 0 → kind ≢ 1 → ReadsContent kind body (Err Unread)
other_kind kind body zero one = none
  where
    none : (other : Content) → IsRowContent other → kind_of other ≡ kind → body_of other ≡ body → ⊥
    none (Plain other) has is text = zero (sym is)
    none (Segments other) has is text = one (sym is)

pub object_has_row : (s : Stored) (kind : ℕ) (meta body : List ℕ) → s.meta ≡ pieces_of meta → ReadsContent kind body (Ok s.content) → HasRow s
object_has_row s kind meta body is reads = record { content = reads.0; meta = ap (list_all is_short) is ∙ pieces_are_short meta }

pub content_has_row : (s : Stored) (content : Content) (meta : List ℕ) → IsRowContent content → s.content ≡ content → s.meta ≡ pieces_of meta → HasRow s
content_has_row s content meta has same is = record { content = subst IsRowContent (sym same) has; meta = ap (list_all is_short) is ∙ pieces_are_short meta }

same_object : (s other : Stored) → s.name ≡ other.name → s.content_type ≡ other.content_type → s.meta ≡ other.meta → s.content ≡ other.content → s ≡ other
same_object s other named typed pieces content = λ i. record { name = named i; content_type = typed i; meta = pieces i; content = content i }

-- an object's columns but its hash are those of the row
abbrev IsOf : Row → Stored → Type 0
IsOf row s = row_of s ≡ record row { hash = etag_of s.content }

module _ (name : List ℕ) (row : Row) (s : Stored) (typed : s.content_type ≡ row.content_type) (pieces : s.meta ≡ pieces_of row.meta) (reads : ReadsContent row.kind row.body (Ok s.content)) where
  other_meta : (other : Stored) → HasRow other → IsOf row other → s.meta ≡ other.meta
  other_meta other has same = pieces ∙ ap (λ (r : Row). pieces_of r.meta) (sym same) ∙ pieces_read other.meta has.meta

  other_content : (other : Stored) → HasRow other → IsOf row other → s.content ≡ other.content
  other_content other has same = reads.3 other.content has.content (ap (λ (r : Row). r.kind) same) (ap (λ (r : Row). r.body) same)

  -- where the other columns are those of its row, it is the object
  pub columns_read : s.name ≡ name → has_columns s row.meta row.size ≡ true → ReadsColumns name row (Ok s)
  columns_read named is =
      let parts = and_parts _ _ is in
      let joins : joined s.meta ≡ row.meta = (bytes_eq-Decides _ _).0 parts.0 in
      let sizes : size_of s.content ≡ row.size = eqb-true _ _ parts.1 in (
        named,
        object_has_row s row.kind row.meta row.body pieces reads,
        (λ i. record {
          kind = reads.1 i;
          content_type = typed i;
          meta = joins i;
          size = sizes i;
          hash = etag_of s.content;
          body = reads.2 i;
        }),
        only named,
      )
    where
      only : s.name ≡ name → (other : Stored) → other.name ≡ name → HasRow other → IsOf row other → s ≡ other
      only named other is has same =
          same_object s other (named ∙ sym is) (typed ∙ sym (ap (λ (r : Row). r.content_type) same)) (other_meta other has same) (other_content other has same)

  -- and else there is none
  pub columns_unread : has_columns s row.meta row.size ≡ false → ReadsColumns name row (Err Unread)
  columns_unread is = λ other named has same. true≢false (sym (all_same other (other_meta other has same) (other_content other has same) same) ∙ is)
    where
      all_same : (other : Stored) → s.meta ≡ other.meta → s.content ≡ other.content → IsOf row other → has_columns s row.meta row.size ≡ true
      all_same other meta content same =
          let joins : joined s.meta ≡ row.meta = ap joined meta ∙ ap (λ (r : Row). r.meta) same in
          let sizes : size_of s.content ≡ row.size = ap size_of content ∙ ap (λ (r : Row). r.size) same in
          and_from _ _ ((bytes_eq-Decides _ _).1 joins) (eq-eqb _ _ sizes)

-- ---- the hash

row_is_of : (row : Row) (s : Stored) → row_of s ≡ row → IsOf row s
row_is_of row s same = same ∙ (λ i. record row { hash = sym (ap (λ (r : Row). r.hash) same) i })

of_is_row : (row : Row) (s : Stored) → etag_of s.content ≡ row.hash → IsOf row s → row_of s ≡ row
of_is_row row s hash same = same ∙ (λ i. record row { hash = hash i })

pub row_read : (name : List ℕ) (row : Row) (s : Stored) → ReadsColumns name row (Ok s) → etag_of s.content ≡ row.hash → ReadsRow name row (Ok s)
row_read name row s reads hash =
    (reads.0, reads.1, of_is_row row s hash reads.2, λ other named has same. reads.3 other named has (row_is_of row other same))

pub other_hash : (name : List ℕ) (row : Row) (s : Stored) → ReadsColumns name row (Ok s) → etag_of s.content ≢ row.hash → ReadsRow name row (Err Unread)
other_hash name row s reads differs = λ other named has same.
    differs (ap (λ (t : Stored). etag_of t.content) (reads.3 other named has (row_is_of row other same)) ∙ ap (λ (r : Row). r.hash) same)

pub row_unread : (name : List ℕ) (row : Row) → ReadsColumns name row (Err Unread) → ReadsRow name row (Err Unread)
row_unread name row reads = λ other named has same. reads other named has (row_is_of row other same)
