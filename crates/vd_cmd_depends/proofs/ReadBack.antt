-- The lines of hosts are read back.
use Rattle.std.proofs.Common.{◌≡◌, ℕ, zero, suc, ◌+◌, ◌<◌, ◌≤◌, ◌^◌, Bool, true, false, cond, ◌&&◌, not, if◌then◌else◌, List, [], ◌∷◌, ◌++◌, length, map, slice_index_or, refl, sym, ap, ◌∙◌, subst, append-nil, append_assoc, length-append, arith}
use Rattle.std.specs.Prelude.{filter, flat_map}
use Rattle.std.specs.Fmt.{decimal}
use Rattle.std.specs.List.{list_all, range_with_len}
use Rattle.std.proofs.lemmas.Bool.{and_from, and_parts}
use Rattle.std.proofs.lemmas.List.Folds.{list_all-map}
use Rattle.std.proofs.lemmas.List.FromFn.{fill_by_all, length-map-range_with_len}
use Rattle.vd_base.specs.HostSets.{has_host, host, hosts, members}
use Rattle.vd_base.specs.Lexical.{is_name}
use Rattle.vd_base.specs.declared.ids.HostId.{HostId}
use Rattle.vd_base.specs.declared.protocols.HostSet.{HostSet}
use Rattle.vd_report.specs.LineWords.{is_inside, line_words}
use Rattle.vd_report.specs.Lines.{number_field}
use Rattle.vd_report.proofs.Front.{AreRead, IsText, name_text, number_text, one_read, word_read}
use Rattle.vd_cmd_depends.specs.Depending.{hosts_line, in_some, joined_names, name_field, other_name}
use Rattle.vd_cmd_depends.specs.Influencing.{hosts_field, influence_line, lacked}
use Rattle.vd_cmd_depends.specs.ReadBack.{AllAreNamed, AreNamed, in_any, LinesAreRead, counted, named}

abbrev has_name : List (List ℕ) → HostId → Bool
has_name names h = is_name (named names h)

-- ---- each host that is printed has a name

hosts_named : (names : List (List ℕ)) → list_all is_name names ≡ true → list_all (has_name names) (hosts (length names)) ≡ true
hosts_named names are =
    let name_at : ℕ → List ℕ = λ k. slice_index_or names k [] in
    let range = range_with_len 0 (length names) in
    list_all-map (has_name names) host range ∙ sym (list_all-map is_name name_at range)
    ∙ ap (λ (all : List (List ℕ)). list_all is_name all) (sym (fill_by_all name_at names (length names) [] refl (λ k l. refl))) ∙ are

picked_named : (names : List (List ℕ)) (p : HostId → Bool) (list : List HostId) → list_all (has_name names) list ≡ true → list_all (has_name names) (filter p list) ≡ true
picked_named names p [] are = refl
picked_named names p (h ∷ list) are =
    let parts = and_parts (has_name names h) (list_all (has_name names) list) are in
    at (p h) (and_from (has_name names h) (list_all (has_name names) (filter p list)) parts.0 (picked_named names p list parts.1)) (picked_named names p list parts.1)
  where
    at : (b : Bool) → list_all (has_name names) (h ∷ filter p list) ≡ true → list_all (has_name names) (filter p list) ≡ true
        → list_all (has_name names) (cond b (h ∷ filter p list) (filter p list)) ≡ true
    at true with_it without = with_it
    at false with_it without = without

picked_few : (p : HostId → Bool) (list : List HostId) → length (filter p list) ≤ length list
picked_few p [] = omega arith
picked_few p (h ∷ list) = at (p h) (picked_few p list)
  where
    at : (b : Bool) → length (filter p list) ≤ length list → length (cond b (h ∷ filter p list) (filter p list)) ≤ suc (length list)
    at true e = omega (arith, e)
    at false e = omega (arith, e)

name_is : (names : List (List ℕ)) (k : ℕ) → list_all is_name names ≡ true → k < length names → is_name (slice_index_or names k []) ≡ true
name_is [] k are inside = absurd (omega arith)
name_is (name ∷ names) zero are inside = (and_parts (is_name name) (list_all is_name names) are).0
name_is (name ∷ names) (suc k) are inside = name_is names k (and_parts (is_name name) (list_all is_name names) are).1 (omega arith)

-- bytes of which none parts words
abbrev IsSolid : List ℕ → Type 0
IsSolid word = list_all is_inside word ≡ true

solid_both : (front more : List ℕ) → IsSolid front → IsSolid more → IsSolid (front ++ more)
solid_both [] more a b = b
solid_both (c ∷ front) more a b = let parts = and_parts (is_inside c) (list_all is_inside front) a in and_from (is_inside c) (list_all is_inside (front ++ more)) parts.0 (solid_both front more parts.1 b)

-- ---- names behind words

module _ (names : List (List ℕ)) where
  names_read : (text : List ℕ) (words : List (List ℕ)) (list : List HostId) → AreRead text words → list_all (has_name names) list ≡ true
      → AreRead (text ++ flat_map (name_field names) list) (words ++ map (named names) list)
  names_read text words [] first are =
      subst (λ (t : List ℕ). AreRead t (words ++ [])) (sym (append-nil text)) (subst (λ (ws : List (List ℕ)). AreRead text ws) (sym (append-nil words)) first)
  names_read text words (h ∷ list) first are =
      let parts = and_parts (has_name names h) (list_all (has_name names) list) are in
      let next = names_read (text ++ name_field names h) (words ++ named names h ∷ []) list (word_read text (named names h) words first (name_text (named names h) parts.0)) parts.1 in
      subst (λ (t : List ℕ). AreRead t (words ++ named names h ∷ map (named names) list)) (append_assoc text (name_field names h) (flat_map (name_field names) list))
      (subst (λ (ws : List (List ℕ)). AreRead (text ++ name_field names h ++ flat_map (name_field names) list) ws) (append_assoc words (named names h ∷ []) (map (named names) list)) next)

  -- how many, and their names
  field_read : (text : List ℕ) (words : List (List ℕ)) (list : List HostId) → AreRead text words → list_all (has_name names) list ≡ true → length list < 2 ^ 64
      → AreRead (text ++ hosts_field names list) (words ++ counted names list)
  field_read text words list first are few =
      let next = names_read (text ++ number_field (length list)) (words ++ decimal (length list) ∷ []) list (word_read text (decimal (length list)) words first (number_text (length list) few)) are in
      subst (λ (t : List ℕ). AreRead t (words ++ counted names list)) (append_assoc text (number_field (length list)) (flat_map (name_field names) list))
      (subst (λ (ws : List (List ℕ)). AreRead (text ++ number_field (length list) ++ flat_map (name_field names) list) ws)
      (append_assoc words (decimal (length list) ∷ []) (map (named names) list)) next)

  module _ (h : HostId) (are : AreNamed names h) where
    few : (p : HostId → Bool) → length (filter p (hosts (length names))) < 2 ^ 64
    few p = let least = picked_few p (hosts (length names)) in
        let whole = length-map-range_with_len host 0 (length names) in
        let small = are.0 in omega (arith, least, whole, small)

    picked : (text : List ℕ) (words : List (List ℕ)) (p : HostId → Bool) → AreRead text words
        → AreRead (text ++ hosts_field names (filter p (hosts (length names)))) (words ++ counted names (filter p (hosts (length names))))
    picked text words p first =
        field_read text words (filter p (hosts (length names))) first (picked_named names p (hosts (length names)) (hosts_named names are.1.0)) (few p)

    -- names with commas between them are one word
    others_solid : (others : List HostId) → AllAreNamed names others → IsSolid (flat_map (other_name names) others)
    others_solid [] all = refl
    others_solid (k ∷ others) all =
        solid_both (other_name names k) (flat_map (other_name names) others) (name_text (named names k) (name_is names k.0 all.0.1.0 all.0.1.1)).0 (others_solid others all.1)

    group_text : (others : List HostId) → AllAreNamed names others → IsText (joined_names names (h ∷ others))
    group_text others all =
        let first = name_text (named names h) (name_is names h.0 are.1.0 are.1.1) in
        let sizes = length-append (named names h) (flat_map (other_name names) others) in
        let some = first.1 in
        (solid_both (named names h) (flat_map (other_name names) others) first.0 (others_solid others all), omega (arith, sizes, some))

    first_read : AreRead (named names h) (named names h ∷ [])
    first_read = one_read (named names h) (name_text (named names h) (name_is names h.0 are.1.0 are.1.1))

    depends_read : (others : List HostId) (sets : List HostSet) → AllAreNamed names others
        → line_words (hosts_line names (h ∷ others) sets) ≡ joined_names names (h ∷ others) ∷ counted names (in_any (length names) sets)
    depends_read others sets all =
        let list = filter (in_some sets) (hosts (length names)) in
        let word = joined_names names (h ∷ others) in
        ap (λ (t : List ℕ). line_words (word ++ t)) (sym (append_assoc (number_field (length list)) (flat_map (name_field names) list) (10 ∷ [])))
        ∙ ap line_words (sym (append_assoc word (hosts_field names list) (10 ∷ [])))
        ∙ (picked word (word ∷ []) (in_some sets) (one_read word (group_text others all))).end

    influences_read : (all direct : HostSet) → line_words (influence_line names h all direct)
        ≡ named names h ∷ counted names (members (length names) all) ++ counted names (lacked (length names) all direct)
    influences_read all direct =
        let one = hosts_field names (members (length names) all) in
        let other = hosts_field names (lacked (length names) all direct) in
        ap line_words (sym (append_assoc (named names h) one (other ++ 10 ∷ [])) ∙ sym (append_assoc (named names h ++ one) other (10 ∷ [])))
        ∙ (picked (named names h ++ one) (named names h ∷ counted names (members (length names) all)) (λ k. has_host all k && not (has_host direct k))
        (picked (named names h) (named names h ∷ []) (has_host all) first_read)).end

pub lines_are_read : LinesAreRead
lines_are_read names h are = record { depends = depends_read names h are; influences = influences_read names h are }
