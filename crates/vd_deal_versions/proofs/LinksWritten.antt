-- The lines of peers of a file of version 2 are written one after the other.
use Rattle.std.proofs.Common.{◌≡◌, ℕ, ◌+◌, ◌<◌, ◌≤◌, min, List, [], ◌∷◌, ◌++◌, length, drop, get_or, inl, inr, refl, sym, ap, ◌∙◌, append_assoc, arith}
use Rattle.std.proofs.lemmas.List.{append-nil, drop_all}
use Rattle.std.proofs.lemmas.Bool.{cases_lt}
use Rattle.vd_tape.specs.declared.deal_items.items.Triple.{Triple}
use Rattle.vd_tape.specs.declared.deal_items.items.PairItem.{PairItem}
use Rattle.vd_tape.specs.Validity.{peer_at}
use Rattle.vd_channel_crypto.specs.declared.deal_keys.secrets.LinkKey.{LinkKey}
use Rattle.vd_tape.specs.Text.{share_text}
use Rattle.vd_tape.proofs.Front.{from_place}
use Rattle.vd_deal_versions.specs.Text.{link_text, linked_text}

here : (me place : ℕ) (l : LinkKey) (t b : List Triple) (p : List PairItem) (ls : List LinkKey) (ts bs : List (List Triple)) (ps : List (List PairItem))
    → linked_text me place (l ∷ ls) (t ∷ ts) (b ∷ bs) (p ∷ ps) ≡ (link_text (peer_at me place) l ++ share_text (peer_at me place) t b p) ++ linked_text me (place + 1) ls ts bs ps
unfolding linked_text
here me place l t b p ls ts bs ps = sym (append_assoc (link_text (peer_at me place) l) (share_text (peer_at me place) t b p) (linked_text me (place + 1) ls ts bs ps))

pub one_more : (me place : ℕ) (ls : List LinkKey) (ts bs : List (List Triple)) (ps : List (List PairItem)) (l : LinkKey) (t b : List Triple) (p : List PairItem) (text new whole : List ℕ)
    → place < length ls → place < length ts → place < length bs → place < length ps → l ≡ get_or ls place l → t ≡ get_or ts place t → b ≡ get_or bs place b → p ≡ get_or ps place p
    → new ≡ text ++ (link_text (peer_at me place) l ++ share_text (peer_at me place) t b p)
    → text ++ linked_text me place (drop place ls) (drop place ts) (drop place bs) (drop place ps) ≡ whole
    → new ++ linked_text me (place + 1) (drop (place + 1) ls) (drop (place + 1) ts) (drop (place + 1) bs) (drop (place + 1) ps) ≡ whole
one_more me place ls ts bs ps l t b p text new whole hl ht hb hp el et eb ep n so_far =
    let rest : List ℕ = linked_text me (place + 1) (drop (place + 1) ls) (drop (place + 1) ts) (drop (place + 1) bs) (drop (place + 1) ps) in
    let both : linked_text me place (drop place ls) (drop place ts) (drop place bs) (drop place ps) ≡ (link_text (peer_at me place) l ++ share_text (peer_at me place) t b p) ++ rest =
    rw (from_place ls place l hl el, from_place ts place t ht et, from_place bs place b hb eb, from_place ps place p hp ep)
    (here me place l t b p (drop (place + 1) ls) (drop (place + 1) ts) (drop (place + 1) bs) (drop (place + 1) ps)) in
    ap (λ bytes. bytes ++ rest) n ∙ append_assoc text (link_text (peer_at me place) l ++ share_text (peer_at me place) t b p) rest ∙ ap (λ bytes. text ++ bytes) (sym both) ∙ so_far

none_of_links : (me place : ℕ) (ts bs : List (List Triple)) (ps : List (List PairItem)) → linked_text me place [] ts bs ps ≡ []
unfolding linked_text
none_of_links me place ts bs ps = refl

none_of_triples : (me place : ℕ) (ls : List LinkKey) (bs : List (List Triple)) (ps : List (List PairItem)) → linked_text me place ls [] bs ps ≡ []
unfolding linked_text
none_of_triples me place [] bs ps = refl
none_of_triples me place (l ∷ ls) bs ps = refl

none_of_bits : (me place : ℕ) (ls : List LinkKey) (ts : List (List Triple)) (ps : List (List PairItem)) → linked_text me place ls ts [] ps ≡ []
unfolding linked_text
none_of_bits me place [] ts ps = refl
none_of_bits me place (l ∷ ls) [] ps = refl
none_of_bits me place (l ∷ ls) (t ∷ ts) ps = refl

none_of_pairs : (me place : ℕ) (ls : List LinkKey) (ts bs : List (List Triple)) → linked_text me place ls ts bs [] ≡ []
unfolding linked_text
none_of_pairs me place [] ts bs = refl
none_of_pairs me place (l ∷ ls) [] bs = refl
none_of_pairs me place (l ∷ ls) (t ∷ ts) [] = refl
none_of_pairs me place (l ∷ ls) (t ∷ ts) (b ∷ bs) = refl

none_left : (me place : ℕ) (ls : List LinkKey) (ts bs : List (List Triple)) (ps : List (List PairItem)) → min (min (min (length ls) (length ts)) (length bs)) (length ps) ≤ place
    → linked_text me place (drop place ls) (drop place ts) (drop place bs) (drop place ps) ≡ []
none_left me place ls ts bs ps h = elim (cases_lt place (length ls)) [
  | inr le ↦ ap (λ xs. linked_text me place xs (drop place ts) (drop place bs) (drop place ps)) (drop_all place ls le) ∙ none_of_links me place (drop place ts) (drop place bs) (drop place ps)
  | inl l ↦ elim (cases_lt place (length ts)) [
    | inr le ↦ ap (λ xs. linked_text me place (drop place ls) xs (drop place bs) (drop place ps)) (drop_all place ts le) ∙ none_of_triples me place (drop place ls) (drop place bs) (drop place ps)
    | inl t ↦ elim (cases_lt place (length bs)) [
      | inr le ↦ ap (λ xs. linked_text me place (drop place ls) (drop place ts) xs (drop place ps)) (drop_all place bs le) ∙ none_of_bits me place (drop place ls) (drop place ts) (drop place ps)
      | inl b ↦ ap (λ xs. linked_text me place (drop place ls) (drop place ts) (drop place bs) xs) (drop_all place ps (omega (arith, h, l, t, b))) ∙ none_of_pairs me place (drop place ls) (drop place ts) (drop place bs)
    ]
  ]
]

pub no_more : (me place : ℕ) (ls : List LinkKey) (ts bs : List (List Triple)) (ps : List (List PairItem)) (text whole : List ℕ) → min (min (min (length ls) (length ts)) (length bs)) (length ps) ≤ place
    → text ++ linked_text me place (drop place ls) (drop place ts) (drop place bs) (drop place ps) ≡ whole → text ≡ whole
no_more me place ls ts bs ps text whole h so_far = sym (ap (λ bytes. text ++ bytes) (none_left me place ls ts bs ps h) ∙ append-nil text) ∙ so_far
