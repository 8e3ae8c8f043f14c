-- A whole file of version 2 is read exactly.
use Rattle.std.proofs.Common.{◌≡◌, ℕ, ◌-◌, ◌<◌, ◌≤◌, List, [], ◌∷◌, ◌++◌, length, Ok, Err, refl, sym, ap, subst, ◌∙◌, append_assoc, length-append, take, arith}
use Rattle.std.specs.Prelude.{codes}
use Rattle.std.proofs.lemmas.List.{append-nil, take_at}
use Rattle.vd_base.specs.Limits.{most_hosts}
use Rattle.vd_base_codec.specs.Reading.{Reading, ◌>>=◌, literal_at, field}
use Rattle.vd_base_codec.specs.Exact.{IsAnything, IsExact}
use Rattle.vd_base_codec.proofs.Front.{done_exact, literal_exact, Picks, later, stopped_first, then_exact, AreEach, exact_as, exact_for, some_key, key_exact}
use Rattle.vd_base.specs.Words.{IsWord}
use Rattle.vd_base_codec.specs.Digits.{IsKey, key_at, key_text}
use Rattle.vd_tape.specs.Text.{list_text, IsDealOf}
use Rattle.vd_tape.specs.Reading.{word_at, list_at}
use Rattle.vd_tape.proofs.Front.{FitsList, own_exact, none_fits, Fit, fit, fit_made, is_deal_of}
use Rattle.vd_deal_versions.specs.declared.dealt.SecretDeal.{SecretDeal}
use Rattle.vd_deal_versions.specs.declared.reading.Linked.{Linked}
use Rattle.vd_deal_versions.specs.Text.{body_text, linked_text, secret_text, sum_line, AreSecretsOf, IsSecretDealOf}
use Rattle.vd_deal_versions.specs.Reading.{before, body_at, front_at, linked_at, secret_at, secret_with}
use Rattle.vd_deal_versions.proofs.LinksExact.{FitsLink, FitsLinked, texts_of, some_linked, linked_exact, shares_in}

-- ---- what fits

abbrev linked_in : SecretDeal → Linked
linked_in x = record { links = x.secrets.links; triples = x.deal.triples; bits = x.deal.bits; pairs = x.deal.pairs }

abbrev FitSecret : (hosts me : ℕ) → SecretDeal → Type 0
FitSecret hosts me x = Fit hosts me x.deal × IsKey x.secrets.id × AreEach FitsLink (hosts - 1) x.secrets.links

fit_secret : (hosts me : ℕ) (x : SecretDeal) → IsSecretDealOf hosts me x → FitSecret hosts me x
fit_secret hosts me x h = (fit hosts me x.deal h.0, h.1.id, (h.1.each_peer, h.1.keys))

is_secret : (hosts me : ℕ) (x : SecretDeal) → hosts ≤ most_hosts → me < hosts → FitSecret hosts me x → IsSecretDealOf hosts me x
is_secret hosts me x few below h = (is_deal_of hosts me x.deal few below h.0, record { id = h.1; each_peer = h.2.0; keys = h.2.1 })

fit_with : (hosts me : ℕ) (id own : List ℕ) (ls : Linked) → IsKey id → FitsList IsWord own → FitsLinked (hosts - 1) ls → FitSecret hosts me (secret_with hosts me id own ls)
fit_with hosts me id own ls h o l = (fit_made hosts me own (shares_in ls) o l.1, h, l.0)

same_secret : (x : SecretDeal) (hosts me : ℕ) (id own : List ℕ) (ls : Linked) → x.deal.hosts ≡ hosts → x.deal.me.0 ≡ me → x.secrets.id ≡ id → x.deal.own ≡ own → linked_in x ≡ ls
    → x ≡ secret_with hosts me id own ls
same_secret x hosts me id own ls h m i o l =
    ap (λ n. secret_with n x.deal.me.0 x.secrets.id x.deal.own (linked_in x)) h
    ∙ ap (λ n. secret_with hosts n x.secrets.id x.deal.own (linked_in x)) m
    ∙ ap (λ k. secret_with hosts me k x.deal.own (linked_in x)) i
    ∙ ap (λ w. secret_with hosts me id w (linked_in x)) o
    ∙ ap (secret_with hosts me id own) l

-- ---- what stands before the own words

abbrev front_bytes : (hosts me : ℕ) → List ℕ → List ℕ
front_bytes hosts me id = codes "viaduct-deal 2" ++ (field hosts ++ (field me ++ (codes "\nid " ++ (key_text id ++ codes "\nown"))))

picks_id : Picks IsAnything IsKey key_text IsAnything IsKey (λ id. key_text id ++ codes "\nown") (λ _. codes "\nown") (λ id. id)
picks_id = record {
  part_fits = λ id h. h;
  split = λ id h. refl;
  some = λ id h. (id, (h, refl));
  break = λ id behind h k. tt;
}

id_exact : (bytes : List ℕ) → IsExact IsAnything IsKey (λ id. key_text id ++ codes "\nown") bytes (key_at bytes >>= λ id. literal_at (codes "\nown") id.1 >>= λ line. Ok (id.0, line.1))
id_exact bytes =
    then_exact IsAnything IsKey key_text IsAnything IsKey (λ id. key_text id ++ codes "\nown") (λ _. codes "\nown") (λ id. id) picks_id bytes (key_at bytes)
    (λ id. literal_at (codes "\nown") id.1 >>= λ line. Ok (id.0, line.1)) (key_exact bytes)
    (λ id mid h.
    exact_as IsAnything (λ x. IsKey x × (x ≡ id)) (λ _. codes "\nown" ++ []) (λ _. codes "\nown") mid (literal_at (codes "\nown") mid >>= λ line. Ok (id, line.1)) (λ x g. sym (append-nil (codes "\nown")))
    (literal_exact IsAnything (λ x. IsKey x × (x ≡ id)) (λ _. []) (codes "\nown") mid id (λ last. Ok (id, last)) (h, refl)
    (λ last. done_exact IsAnything (λ x. IsKey x × (x ≡ id)) id last (h, refl) (λ x g. g.1))))

front_exact : (hosts me : ℕ) (bytes : List ℕ) → IsExact IsAnything IsKey (front_bytes hosts me) bytes (front_at hosts me bytes)
unfolding front_at
front_exact hosts me bytes =
    literal_exact IsAnything IsKey (λ id. field hosts ++ (field me ++ (codes "\nid " ++ (key_text id ++ codes "\nown")))) (codes "viaduct-deal 2") bytes some_key.0
    (λ a. literal_at (field hosts) a >>= λ b. literal_at (field me) b.1 >>= λ c. literal_at (codes "\nid ") c.1 >>= λ d. key_at d.1 >>= λ id. literal_at (codes "\nown") id.1 >>= λ line. Ok (id.0, line.1))
    some_key.1
    (λ a. literal_exact IsAnything IsKey (λ id. field me ++ (codes "\nid " ++ (key_text id ++ codes "\nown"))) (field hosts) a some_key.0
    (λ b. literal_at (field me) b >>= λ c. literal_at (codes "\nid ") c.1 >>= λ d. key_at d.1 >>= λ id. literal_at (codes "\nown") id.1 >>= λ line. Ok (id.0, line.1))
    some_key.1
    (λ b. literal_exact IsAnything IsKey (λ id. codes "\nid " ++ (key_text id ++ codes "\nown")) (field me) b some_key.0
    (λ c. literal_at (codes "\nid ") c >>= λ d. key_at d.1 >>= λ id. literal_at (codes "\nown") id.1 >>= λ line. Ok (id.0, line.1))
    some_key.1
    (λ c. literal_exact IsAnything IsKey (λ id. key_text id ++ codes "\nown") (codes "\nid ") c some_key.0
    (λ d. key_at d >>= λ id. literal_at (codes "\nown") id.1 >>= λ line. Ok (id.0, line.1))
    some_key.1 id_exact)))

-- ---- part by part

abbrev peers_text : ℕ → SecretDeal → List ℕ
peers_text me x = texts_of me 0 (linked_in x)

abbrev behind_front : ℕ → SecretDeal → List ℕ
behind_front me x = list_text field x.deal.own ++ peers_text me x

-- the text with the numbers that are wanted
abbrev text_with : ℕ → ℕ → SecretDeal → List ℕ
text_with hosts me x = front_bytes hosts me x.secrets.id ++ behind_front me x

regroup : (a b c d e f g h : List ℕ) → a ++ ((b ++ (c ++ (d ++ (e ++ (f ++ g))))) ++ h) ≡ (a ++ (b ++ (c ++ (d ++ (e ++ f))))) ++ (g ++ h)
regroup a b c d e f g h = simp append_assoc refl

same_text : (hosts me : ℕ) (x : SecretDeal) → FitSecret hosts me x → body_text x ≡ text_with hosts me x
same_text hosts me x h =
    ap (λ n. codes "viaduct-deal 2" ++ ((field n ++ (field x.deal.me.0 ++ (codes "\nid " ++ (key_text x.secrets.id ++ (codes "\nown" ++ list_text field x.deal.own)))))
    ++ texts_of x.deal.me.0 0 (linked_in x))) h.0.hosts_are
    ∙ ap (λ m. codes "viaduct-deal 2" ++ ((field hosts ++ (field m ++ (codes "\nid " ++ (key_text x.secrets.id ++ (codes "\nown" ++ list_text field x.deal.own)))))
    ++ texts_of m 0 (linked_in x))) h.0.me_is
    ∙ regroup (codes "viaduct-deal 2") (field hosts) (field me) (codes "\nid ") (key_text x.secrets.id) (codes "\nown") (list_text field x.deal.own) (peers_text me x)

picks_front : (hosts me : ℕ) → Picks IsAnything IsKey (front_bytes hosts me) IsAnything (FitSecret hosts me) (text_with hosts me) (behind_front me) (λ x. x.secrets.id)
picks_front hosts me = record {
  part_fits = λ x h. h.1;
  split = λ x h. refl;
  some = λ id h. let ls = some_linked (hosts - 1) in (secret_with hosts me id [] ls.0, (fit_with hosts me id [] ls.0 h (none_fits IsWord) ls.1, refl));
  break = λ x behind h k. tt;
}

picks_own : (hosts me : ℕ) (id : List ℕ) → IsKey id
    → Picks IsAnything (FitsList IsWord) (list_text field) IsAnything (λ (x : SecretDeal). FitSecret hosts me x × (x.secrets.id ≡ id)) (behind_front me) (peers_text me) (λ x. x.deal.own)
picks_own hosts me id fits = record {
  part_fits = λ x h. h.0.0.own;
  split = λ x h. refl;
  some = λ own h. let ls = some_linked (hosts - 1) in (secret_with hosts me id own ls.0, ((fit_with hosts me id own ls.0 fits h ls.1, refl), refl));
  break = λ x behind h k. tt;
}

picks_linked : (hosts me : ℕ) (id own : List ℕ) → IsKey id → FitsList IsWord own
    → Picks IsAnything (FitsLinked (hosts - 1)) (texts_of me 0) IsAnything (λ (x : SecretDeal). (FitSecret hosts me x × (x.secrets.id ≡ id)) × (x.deal.own ≡ own)) (peers_text me) (λ _. []) linked_in
picks_linked hosts me id own fits_id fits_own = record {
  part_fits = λ x h. (h.0.0.2, h.0.0.0.shares);
  split = λ x h. sym (append-nil (peers_text me x));
  some = λ ls h. (secret_with hosts me id own ls, (((fit_with hosts me id own ls fits_id fits_own h, refl), refl), refl));
  break = λ x behind h k. tt;
}

parts_exact : (hosts me : ℕ) (bytes : List ℕ) → IsExact IsAnything (FitSecret hosts me) (text_with hosts me) bytes (body_at hosts me bytes)
unfolding body_at
parts_exact hosts me bytes =
    then_exact IsAnything IsKey (front_bytes hosts me) IsAnything (FitSecret hosts me) (text_with hosts me) (behind_front me) (λ x. x.secrets.id) (picks_front hosts me) bytes (front_at hosts me bytes)
    (λ id. list_at word_at id.1 >>= λ own. linked_at me 0 (hosts - 1) own.1 >>= λ ls. Ok (secret_with hosts me id.0 own.0 ls.0, ls.1)) (front_exact hosts me bytes)
    (λ id mid fits_id.
    then_exact IsAnything (FitsList IsWord) (list_text field) IsAnything (λ (x : SecretDeal). FitSecret hosts me x × (x.secrets.id ≡ id)) (behind_front me) (peers_text me) (λ x. x.deal.own) (picks_own hosts me id fits_id) mid (list_at word_at mid)
    (λ own. linked_at me 0 (hosts - 1) own.1 >>= λ ls. Ok (secret_with hosts me id own.0 ls.0, ls.1)) (own_exact mid)
    (λ own over fits_own.
    then_exact IsAnything (FitsLinked (hosts - 1)) (texts_of me 0) IsAnything (λ (x : SecretDeal). (FitSecret hosts me x × (x.secrets.id ≡ id)) × (x.deal.own ≡ own)) (peers_text me) (λ _. []) linked_in (picks_linked hosts me id own fits_id fits_own) over (linked_at me 0 (hosts - 1) over)
    (λ ls. Ok (secret_with hosts me id own ls.0, ls.1)) (linked_exact me 0 (hosts - 1) over)
    (λ ls last h.
    done_exact IsAnything (λ (x : SecretDeal). ((FitSecret hosts me x × (x.secrets.id ≡ id)) × (x.deal.own ≡ own)) × (linked_in x ≡ ls)) (secret_with hosts me id own ls) last
    (((fit_with hosts me id own ls fits_id fits_own h, refl), refl), refl)
    (λ x g. same_secret x hosts me id own ls g.0.0.0.0.hosts_are g.0.0.0.0.me_is g.0.0.1 g.0.1 g.1))))

body_exact : (hosts me : ℕ) (bytes : List ℕ) → hosts ≤ most_hosts → me < hosts → IsExact IsAnything (IsSecretDealOf hosts me) body_text bytes (body_at hosts me bytes)
body_exact hosts me bytes few below =
    exact_for IsAnything (FitSecret hosts me) (IsSecretDealOf hosts me) body_text bytes (body_at hosts me bytes) (λ x. is_secret hosts me x few below) (fit_secret hosts me)
    (exact_as IsAnything (FitSecret hosts me) (text_with hosts me) body_text bytes (body_at hosts me bytes) (same_text hosts me) (parts_exact hosts me bytes))

-- ---- the last line

abbrev sum_of : SecretDeal → List ℕ
sum_of x = sum_line (body_text x)

picks_body : (Fits : SecretDeal → Type 0) → Picks IsAnything Fits body_text IsAnything Fits secret_text sum_of (λ x. x)
picks_body Fits = record {
  part_fits = λ x h. h;
  split = λ x h. refl;
  some = λ x h. (x, (h, refl));
  break = λ x behind h k. tt;
}

before_is : (all front left : List ℕ) → all ≡ front ++ left → before all left ≡ front
before_is all front left e =
    ap (λ (bs : List ℕ). before bs left) e ∙ take_at front left (length (front ++ left) - length left) (omega (arith, length-append front left))

sum_exact : (Fits : SecretDeal → Type 0) (x : SecretDeal) (left : List ℕ) → Fits x
    → IsExact IsAnything (λ y. Fits y × (y ≡ x)) sum_of left (literal_at (sum_of x) left >>= λ line. Ok (x, line.1))
sum_exact Fits x left h =
    exact_as IsAnything (λ y. Fits y × (y ≡ x)) (λ _. sum_of x ++ []) sum_of left (literal_at (sum_of x) left >>= λ line. Ok (x, line.1))
    (λ y g. ap sum_of g.1 ∙ sym (append-nil (sum_of x)))
    (literal_exact IsAnything (λ y. Fits y × (y ≡ x)) (λ _. []) (sum_of x) left x (λ last. Ok (x, last)) (h, refl)
    (λ last. done_exact IsAnything (λ y. Fits y × (y ≡ x)) x last (h, refl) (λ y g. g.1)))

abbrev then_sum : (bytes : List ℕ) → SecretDeal × List ℕ → Reading SecretDeal
then_sum bytes x = literal_at (sum_line (before bytes x.1)) x.1 >>= λ line. Ok (x.0, line.1)

summed : (Fits : SecretDeal → Type 0) (bytes : List ℕ) (r : Reading SecretDeal) → IsExact IsAnything Fits body_text bytes r → IsExact IsAnything Fits secret_text bytes (r >>= then_sum bytes)
summed Fits bytes (Ok x) exact =
    later IsAnything Fits body_text IsAnything Fits secret_text sum_of (λ y. y) (picks_body Fits) bytes x.0 x.1 exact (then_sum bytes x)
    (subst (λ (body : List ℕ). IsExact IsAnything (λ y. Fits y × (y ≡ x.0)) sum_of x.1 (literal_at (sum_line body) x.1 >>= λ line. Ok (x.0, line.1)))
    (sym (before_is bytes (body_text x.0) x.1 exact.split)) (sum_exact Fits x.0 x.1 exact.fits))
summed Fits bytes (Err over) exact = stopped_first IsAnything Fits body_text IsAnything Fits secret_text sum_of (λ y. y) (picks_body Fits) bytes over exact

pub secret_exact : (hosts me : ℕ) (bytes : List ℕ) → hosts ≤ most_hosts → me < hosts → IsExact IsAnything (IsSecretDealOf hosts me) secret_text bytes (secret_at hosts me bytes)
unfolding secret_at
secret_exact hosts me bytes few below = summed (IsSecretDealOf hosts me) bytes (body_at hosts me bytes) (body_exact hosts me bytes few below)
