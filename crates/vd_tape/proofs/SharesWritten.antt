-- The lines of peers are written one after the other.
use Rattle.std.proofs.Common.{◌≡◌, ℕ, suc, ◌+◌, ◌<◌, ◌≤◌, min, List, [], ◌∷◌, ◌++◌, length, drop, get_or, inl, inr, refl, sym, ap, ◌∙◌, append_assoc, drop-cons, add-one, arith}
use Rattle.std.proofs.lemmas.List.{append-nil, drop_all}
use Rattle.std.proofs.lemmas.Bool.{cases_lt}
use Rattle.vd_tape.specs.declared.deal_items.items.Triple.{Triple}
use Rattle.vd_tape.specs.declared.deal_items.items.PairItem.{PairItem}
use Rattle.vd_tape.specs.Validity.{peer_at}
use Rattle.vd_tape.specs.Text.{share_text, shares_text}

pub from_place : {X : Type 0} (xs : List X) (i : ℕ) (x : X) → i < length xs → x ≡ get_or xs i x → drop i xs ≡ x ∷ drop (i + 1) xs
from_place xs i x h e = rw (add-one, drop-cons xs i x) (ap (λ y. y ∷ drop (suc i) xs) (sym e))

here : (me place : ℕ) (t b : List Triple) (p : List PairItem) (ts bs : List (List Triple)) (ps : List (List PairItem))
    → shares_text me place (t ∷ ts) (b ∷ bs) (p ∷ ps) ≡ share_text (peer_at me place) t b p ++ shares_text me (place + 1) ts bs ps
unfolding shares_text
here me place t b p ts bs ps = refl

pub one_share : (me place : ℕ) (ts bs : List (List Triple)) (ps : List (List PairItem)) (t b : List Triple) (p : List PairItem) (text new whole : List ℕ)
    → place < length ts → place < length bs → place < length ps → t ≡ get_or ts place t → b ≡ get_or bs place b → p ≡ get_or ps place p
    → new ≡ text ++ share_text (peer_at me place) t b p
    → text ++ shares_text me place (drop place ts) (drop place bs) (drop place ps) ≡ whole
    → new ++ shares_text me (place + 1) (drop (place + 1) ts) (drop (place + 1) bs) (drop (place + 1) ps) ≡ whole
one_share me place ts bs ps t b p text new whole ht hb hp et eb ep n so_far =
    let rest : List ℕ = shares_text me (place + 1) (drop (place + 1) ts) (drop (place + 1) bs) (drop (place + 1) ps) in
    let both : shares_text me place (drop place ts) (drop place bs) (drop place ps) ≡ share_text (peer_at me place) t b p ++ rest =
    rw (from_place ts place t ht et, from_place bs place b hb eb, from_place ps place p hp ep)
    (here me place t b p (drop (place + 1) ts) (drop (place + 1) bs) (drop (place + 1) ps)) in
    ap (λ bytes. bytes ++ rest) n ∙ append_assoc text (share_text (peer_at me place) t b p) rest ∙ ap (λ bytes. text ++ bytes) (sym both) ∙ so_far

none_of_triples : (me place : ℕ) (bs : List (List Triple)) (ps : List (List PairItem)) → shares_text me place [] bs ps ≡ []
unfolding shares_text
none_of_triples me place bs ps = refl

none_of_bits : (me place : ℕ) (ts : List (List Triple)) (ps : List (List PairItem)) → shares_text me place ts [] ps ≡ []
unfolding shares_text
none_of_bits me place [] ps = refl
none_of_bits me place (t ∷ ts) ps = refl

none_of_pairs : (me place : ℕ) (ts bs : List (List Triple)) → shares_text me place ts bs [] ≡ []
unfolding shares_text
none_of_pairs me place [] bs = refl
none_of_pairs me place (t ∷ ts) [] = refl
none_of_pairs me place (t ∷ ts) (b ∷ bs) = refl

none_left : (me place : ℕ) (ts bs : List (List Triple)) (ps : List (List PairItem)) → min (min (length ts) (length bs)) (length ps) ≤ place
    → shares_text me place (drop place ts) (drop place bs) (drop place ps) ≡ []
none_left me place ts bs ps h = elim (cases_lt place (length ts)) [
  | inr le ↦ ap (λ xs. shares_text me place xs (drop place bs) (drop place ps)) (drop_all place ts le) ∙ none_of_triples me place (drop place bs) (drop place ps)
  | inl lt ↦ elim (cases_lt place (length bs)) [
    | inr le ↦ ap (λ xs. shares_text me place (drop place ts) xs (drop place ps)) (drop_all place bs le) ∙ none_of_bits me place (drop place ts) (drop place ps)
    | inl also ↦ ap (λ xs. shares_text me place (drop place ts) (drop place bs) xs) (drop_all place ps (omega arith)) ∙ none_of_pairs me place (drop place ts) (drop place bs)
  ]
]

pub no_more : (me place : ℕ) (ts bs : List (List Triple)) (ps : List (List PairItem)) (text whole : List ℕ) → min (min (length ts) (length bs)) (length ps) ≤ place
    → text ++ shares_text me place (drop place ts) (drop place bs) (drop place ps) ≡ whole → text ≡ whole
no_more me place ts bs ps text whole h so_far = sym (ap (λ bytes. text ++ bytes) (none_left me place ts bs ps h) ∙ append-nil text) ∙ so_far

pub at_place : {X : Type 0} (xs ys : List X) (i : ℕ) (x y : X) → ys ≡ xs → x ≡ y → y ≡ get_or ys i y → x ≡ get_or xs i x
at_place xs ys i x y e s is = s ∙ is ∙ ap (λ zs. get_or zs i y) e ∙ ap (λ z. get_or xs i z) (sym s)
