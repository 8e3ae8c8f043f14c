-- Each file has one outcome, and no second: that of the scanner.
use Rattle.std.proofs.Common.{◌≡◌, ℕ, ◌+◌, ◌<◌, ◌≤◌, Ok, Err, List, [], ◌∷◌, ◌++◌, length, refl, sym, ap, ◌∙◌, subst, arith, append_assoc, append-nil, length-append, ◌⊎◌, inl, inr}
use Rattle.std.specs.Prelude.{Result}
use Rattle.std.proofs.lemmas.Bool.{cases_lt}
use Rattle.vd_search_tree.specs.declared.search_certificate.certificate.Certificate.{Certificate}
use Rattle.vd_search_tree.specs.Texts.{IsTextOf}
use Rattle.vd_search_tree.specs.Scan.{Scanned, scan}
use Rattle.vd_search_tree.specs.Outcomes.{GoesWrong, IsFirstWrong, HasOutcome, HasOneOutcome}
use Rattle.vd_search_tree.proofs.Whole.{scans_texts}

-- where the scanner stops no text goes on
pub first_wrong : (bytes rest : List ℕ) → scan bytes ≡ Err rest → (at : ℕ) → length bytes ≡ at + length rest → IsFirstWrong bytes at
first_wrong bytes rest is at size =
    let stop = scans_texts.stops bytes rest is in
    let lengths = ap length stop.are ∙ length-append stop.front rest in
    record { front = stop.front; behind = rest; are = stop.are; at = omega (arith, lengths); begins = (stop.c, stop.more, stop.begins); wrong = wrong stop.front rest stop.are stop.same }
  where
    clash : (c : Certificate) (left : List ℕ) → ◌≡◌ {A = Scanned} (Ok c) (Err left) → ⊥
    clash c left e = cc

    wrong : (front left : List ℕ) → bytes ≡ front ++ left → ((b : ℕ) (tail behind : List ℕ) → left ≡ b ∷ tail → scan (front ++ b ∷ behind) ≡ Err (b ∷ behind)) → GoesWrong front left
    wrong front [] are same = λ c text. clash c rest (sym (scans_texts.back bytes c (subst (IsTextOf c) (sym (append-nil front) ∙ sym are) text)) ∙ is)
    wrong front (b ∷ tail) are same = λ begins.
        let c = begins.0 in
        let more = begins.1 in
        let text = subst (IsTextOf c) (append_assoc front (b ∷ []) more) begins.2 in
        clash c (b ∷ more) (sym (scans_texts.back (front ++ b ∷ more) c text) ∙ same b tail more refl)

longer : (f g t u : List ℕ) (b : ℕ) → f ++ b ∷ t ≡ g ++ u → length f < length g → (d : List ℕ) × (g ≡ (f ++ b ∷ []) ++ d)
longer [] [] t u b same less = absurd (omega arith)
longer [] (y ∷ g) t u b same less = let head : b ≡ y = cc in (g, ap (λ x. x ∷ g) (sym head))
longer (x ∷ f) [] t u b same less = absurd (omega arith)
longer (x ∷ f) (y ∷ g) t u b same less =
    let head : x ≡ y = cc in
    let tails : f ++ b ∷ t ≡ g ++ u = cc in
    let rest = longer f g t u b tails (omega arith) in
    (rest.0, λ i. sym head i ∷ rest.1 i)

not_before : (bytes : List ℕ) (m n : ℕ) → IsFirstWrong bytes m → IsFirstWrong bytes n → m < n → ⊥
not_before bytes m n a b less = by a.behind a.are a.wrong
  where
    lengths : length bytes ≡ n + length b.behind
    lengths = ap length b.are ∙ length-append b.front b.behind ∙ ap (λ k. k + length b.behind) b.at

    by : (behind : List ℕ) → bytes ≡ a.front ++ behind → GoesWrong a.front behind → ⊥
    by [] are wrong = let front = ap length are ∙ length-append a.front [] in let sizes = lengths in let at = a.at in omega (arith, front, sizes, at)
    by (x ∷ behind) are wrong =
        let at = a.at in
        let at_b = b.at in
        let more = longer a.front b.front behind b.behind x (sym are ∙ b.are) (omega (arith, at, at_b)) in
        let c = b.begins.0 in
        wrong (c, more.0 ++ b.begins.1, subst (IsTextOf c) (ap (λ f. f ++ b.begins.1) more.1 ∙ append_assoc (a.front ++ x ∷ []) more.0 b.begins.1) b.begins.2)

first_wrong_once : (bytes : List ℕ) (m n : ℕ) → IsFirstWrong bytes m → IsFirstWrong bytes n → m ≡ n
first_wrong_once bytes m n a b = by (cases_lt m n) (cases_lt n m)
  where
    by : (m < n) ⊎ (n ≤ m) → (n < m) ⊎ (m ≤ n) → m ≡ n
    by (inl less) other = absurd (not_before bytes m n a b less)
    by (inr least) (inl less) = absurd (not_before bytes n m b a less)
    by (inr least) (inr most) = omega arith

text_is_not_wrong : (bytes : List ℕ) (c : Certificate) (n : ℕ) → IsTextOf c bytes → IsFirstWrong bytes n → ⊥
text_is_not_wrong bytes c n text wrong = by wrong.behind wrong.are wrong.wrong
  where
    by : (behind : List ℕ) → bytes ≡ wrong.front ++ behind → GoesWrong wrong.front behind → ⊥
    by [] are goes = goes c (subst (IsTextOf c) (are ∙ append-nil wrong.front) text)
    by (x ∷ behind) are goes = goes (c, behind, subst (IsTextOf c) (are ∙ sym (append_assoc wrong.front (x ∷ []) behind)) text)

pub outcome_once : (bytes : List ℕ) (one other : Result Certificate ℕ) → HasOutcome bytes one → HasOutcome bytes other → other ≡ one
outcome_once bytes (Ok c) (Ok d) one other = let same : ◌≡◌ {A = Scanned} (Ok d) (Ok c) = sym (scans_texts.back bytes d other) ∙ scans_texts.back bytes c one in let both : d ≡ c = cc in ap Ok both
outcome_once bytes (Ok c) (Err n) one other = absurd (text_is_not_wrong bytes c n one other)
outcome_once bytes (Err m) (Ok d) one other = absurd (text_is_not_wrong bytes d m other one)
outcome_once bytes (Err m) (Err n) one other = ap Err (first_wrong_once bytes n m other one)

pub one_outcome : (bytes : List ℕ) → HasOneOutcome bytes
one_outcome bytes = by (scan bytes) refl
  where
    with : (outcome : Result Certificate ℕ) → HasOutcome bytes outcome → HasOneOutcome bytes
    with outcome has = record { outcome = outcome; has = has; single = λ other is. outcome_once bytes outcome other has is }

    by : (r : Scanned) → scan bytes ≡ r → HasOneOutcome bytes
    by (Ok c) is = with (Ok c) (scans_texts.given bytes c is)
    by (Err rest) is =
        let stop = scans_texts.stops bytes rest is in
        let lengths = ap length stop.are ∙ length-append stop.front rest in
        with (Err (length stop.front)) (first_wrong bytes rest is (length stop.front) lengths)
