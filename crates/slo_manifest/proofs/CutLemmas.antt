-- What is read from a path in UTF-8 may be listed.
use Rattle.std.proofs.Common.{◌≡◌, ℕ, suc, ◌+◌, ◌<◌, Bool, true, false, not, cond, List, [], ◌∷◌, length, get_or, take, IsUtf8, inl, inr, refl, sym, ap, ◌∙◌, subst, arith, lt-ltb}
use Rattle.std.specs.List.{list_any, position_or_len, before_first, after_first}
use Rattle.std.proofs.lemmas.Bool.{and_from, cases_lt}
use Rattle.std.proofs.lemmas.Bool.Decides.{nat_tests}
use Rattle.std.proofs.lemmas.List.{take_all, drop_all}
use Rattle.std.proofs.lemmas.List.Sums.{passes_at_first}
use Rattle.std.proofs.lemmas.Str.{IsUtf8-nil, IsUtf8-take, IsUtf8-drop, is_utf8-from_IsUtf8, IsCharBoundary-before_ascii, IsCharBoundary-after_ascii}
use Rattle.gate_base.specs.Ascii.{is_slash}
use Rattle.slo_manifest.specs.Segments.{is_proper_entry, is_listable, is_segment}
use Rattle.slo_manifest.specs.Path.{relative, container_in, name_in}
use Rattle.slo_manifest.specs.Entry.{segment}

slash_is_ascii : (byte : ℕ) → is_slash byte ≡ true → byte < 128
slash_is_ascii byte h = grind (arith, nat_tests)

relative_at : (byte : ℕ) (rest : List ℕ) (t : Bool) → is_slash byte ≡ t → IsUtf8 (byte ∷ rest) → IsUtf8 (cond t rest (byte ∷ rest))
relative_at byte rest true e h = IsUtf8-drop (byte ∷ rest) 1 h (IsCharBoundary-after_ascii (byte ∷ rest) 0 h (omega arith) (slash_is_ascii byte e))
relative_at byte rest false e h = h

relative_is_utf8 : (path : List ℕ) → IsUtf8 path → IsUtf8 (relative path)
relative_is_utf8 [] h = h
relative_is_utf8 (byte ∷ rest) h = relative_at byte rest (is_slash byte) refl h

cut_is_utf8 : (text : List ℕ) → IsUtf8 text → IsUtf8 (before_first is_slash text) × IsUtf8 (after_first is_slash text)
cut_is_utf8 text h =
    let at = position_or_len is_slash text in
    elim (cases_lt at (length text)) [
      | inl within ↦
          let small = slash_is_ascii (get_or text at 0) (passes_at_first is_slash text 0 within) in
          (IsUtf8-take text at h (IsCharBoundary-before_ascii text at within small), IsUtf8-drop text (at + 1) h (IsCharBoundary-after_ascii text at h within small))
      | inr past ↦ (subst IsUtf8 (sym (take_all at text past)) h, subst IsUtf8 (sym (drop_all (at + 1) text (omega arith))) IsUtf8-nil)
    ]

before_at : (byte : ℕ) (rest : List ℕ) (t : Bool) → is_slash byte ≡ t → list_any is_slash (before_first is_slash rest) ≡ false → list_any is_slash (take (cond (not t) (1 + position_or_len is_slash rest) 0) (byte ∷ rest)) ≡ false
before_at byte rest true e h = refl
before_at byte rest false e h =
    let counted : 1 + position_or_len is_slash rest ≡ suc (position_or_len is_slash rest) = omega arith in
    ap (λ k. list_any is_slash (take k (byte ∷ rest))) counted ∙ rw e h

before_has_no_slash : (text : List ℕ) → list_any is_slash (before_first is_slash text) ≡ false
before_has_no_slash [] = refl
before_has_no_slash (byte ∷ rest) = before_at byte rest (is_slash byte) refl (before_has_no_slash rest)

-- the segment that a path in UTF-8 gives may be listed
pub segment_listed : (etag path : List ℕ) (size : ℕ) → IsUtf8 path → is_proper_entry (container_in path) (name_in path) etag size ≡ true → 0 < size → is_segment (segment etag path size) ≡ true
unfolding is_segment is_listable
segment_listed etag path size utf8 proper some =
    let cut = cut_is_utf8 (relative path) (relative_is_utf8 path utf8) in
    let no_slash : not (list_any is_slash (container_in path)) ≡ true = ap not (before_has_no_slash (relative path)) in
    and_from _ _ proper (and_from _ _ (and_from _ _ (and_from _ _ (lt-ltb 0 size some) no_slash) (is_utf8-from_IsUtf8 (container_in path) cut.0)) (is_utf8-from_IsUtf8 (name_in path) cut.1))
