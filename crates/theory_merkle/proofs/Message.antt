-- The messages' lengths, and that a message determines its fields.
use Prim.Native.Nat.{ℕ, ◌+◌, ◌*◌, ◌^◌, ◌<◌}
use mathlib.Core.Path.{◌≡◌, refl, sym, ◌∙◌, ap, ap₂}
use mathlib.Core.List.{List, [], ◌∷◌, ◌++◌, map, append_assoc, append-nil}
use native.Mathlib.Omega.{arith}
use lib.ListN.{length, get_or, length-append}
use Rattle.theory_laws.specs.Lists.{flat, le_bytes}
use Rattle.theory_laws.proofs.Lists.{length-le_bytes}
use Rattle.theory_merkle.specs.Message.{prefixed, serialize_prefix, serialize_parts, words_bytes}
use Rattle.theory_merkle.specs.Message.{leaf_label, leaf_prefix, leaf_rest, leaf_message, node_label, node_prefix, node_message}
use Rattle.theory_laws.proofs.Bytes.{AllBelow, append_determines, le_bytes_determine, le_bytes-append_determines, length-numbers, numbers_determine}

-- ---- lengths

pub length-prefixed : (p : List ℕ) → length (prefixed p) ≡ 8 + length p
unfolding prefixed
length-prefixed p = rw (length-append, length-le_bytes)

pub length-leaf_prefix : (domain : List ℕ) (count width : ℕ) → length (leaf_prefix domain count width) ≡ 73 + length domain
unfolding leaf_prefix serialize_prefix flat leaf_label
length-leaf_prefix domain count width = simp (length-append, length-le_bytes, length-prefixed) (omega arith)

pub length-leaf_rest : (width group : ℕ) (values : List ℕ) → length values ≡ width → length (leaf_rest width group values) ≡ 24 + 16 * width
unfolding leaf_rest words_bytes
length-leaf_rest width group values h = simp (length-append, length-le_bytes, length-numbers, h) (omega arith)

-- over the width and the domain's length
pub length-leaf_message : (domain : List ℕ) (count width group : ℕ) (values : List ℕ) → length values ≡ width
    → length (leaf_message domain count width group values) ≡ 97 + length domain + 16 * width
unfolding leaf_message
length-leaf_message domain count width group values h = rw (length-append, length-leaf_prefix, length-leaf_rest width group values h) (omega arith)

pub length-node_message : (domain : List ℕ) (level : ℕ) (l r : List ℕ) → length l ≡ 32 → length r ≡ 32
    → length (node_message domain level l r) ≡ 136 + length domain
unfolding node_message serialize_parts serialize_prefix flat node_label
length-node_message domain level l r hl hr = simp (length-append, length-le_bytes, length-prefixed, hl, hr) (omega arith)

-- a node message is its level's prefix, and the two digests after their lengths
pub node_message-is : (domain : List ℕ) (level : ℕ) (l r : List ℕ) → node_message domain level l r ≡ node_prefix domain level ++ (prefixed l ++ prefixed r)
unfolding node_message node_prefix serialize_parts serialize_prefix flat
node_message-is domain level l r = simp (append_assoc, append-nil)

pub length-node_prefix : (domain : List ℕ) (level : ℕ) → length (node_prefix domain level) ≡ 56 + length domain
unfolding node_prefix serialize_prefix flat node_label
length-node_prefix domain level = simp (length-append, length-le_bytes, length-prefixed) (omega arith)

-- the case of SPECIFICATION 12.2: a 1-byte domain and width 8
pub leaf_226 : (domain : List ℕ) (count group : ℕ) (values : List ℕ) → length domain ≡ 1 → length values ≡ 8
    → length (leaf_message domain count 8 group values) ≡ 226
leaf_226 domain count group values hd hv = length-leaf_message domain count 8 group values hv ∙ rw hd

-- ---- parts

-- a part's length fits its 8 bytes
abbrev pub Short : List ℕ → Type 0
Short p = length p < 2 ^ 64

abbrev pub AllShort : List (List ℕ) → Type 0
AllShort [] = Unit
AllShort (p ∷ ps) = Short p × AllShort ps

pub prefixed_determines : (p q r s : List ℕ) → Short p → Short q → prefixed p ++ r ≡ prefixed q ++ s → (p ≡ q) × (r ≡ s)
unfolding prefixed
prefixed_determines p q r s hp hq e =
    let e' = sym (append_assoc (le_bytes 8 (length p)) p r) ∙ e ∙ append_assoc (le_bytes 8 (length q)) q s in
    let d = le_bytes-append_determines 8 (length p) (length q) (p ++ r) (q ++ s) e' in
    append_determines p q r s (le_bytes_determine 8 (length p) (length q) hp hq d.0) d.1

parts_determine : (ps qs : List (List ℕ)) (r s : List ℕ) → length ps ≡ length qs → AllShort ps → AllShort qs
    → flat (map prefixed ps) ++ r ≡ flat (map prefixed qs) ++ s → (ps ≡ qs) × (r ≡ s)
unfolding flat
parts_determine [] [] r s n hp hq e = (refl, e)
parts_determine [] (q ∷ qs) r s n hp hq e = absurd (omega arith)
parts_determine (p ∷ ps) [] r s n hp hq e = absurd (omega arith)
parts_determine (p ∷ ps) (q ∷ qs) r s n hp hq e =
    let d = prefixed_determines p q (flat (map prefixed ps) ++ r) (flat (map prefixed qs) ++ s) hp.0 hq.0
    (sym (append_assoc (prefixed p) (flat (map prefixed ps)) r) ∙ e ∙ append_assoc (prefixed q) (flat (map prefixed qs)) s) in
    let t = parts_determine ps qs r s (omega arith) hp.1 hq.1 d.1 in
    (ap₂ (λ (z : List ℕ) (zs : List (List ℕ)). z ∷ zs) d.0 t.0, t.1)

-- the parts, and what follows them
pub prefix_determines : (c : ℕ) (ps qs : List (List ℕ)) (r s : List ℕ) → length ps ≡ length qs → AllShort ps → AllShort qs
    → serialize_prefix c ps ++ r ≡ serialize_prefix c qs ++ s → (ps ≡ qs) × (r ≡ s)
unfolding serialize_prefix
prefix_determines c ps qs r s n hp hq e =
    parts_determine ps qs r s n hp hq
    (append_determines (le_bytes 8 c) (le_bytes 8 c) (flat (map prefixed ps) ++ r) (flat (map prefixed qs) ++ s) refl
    (sym (append_assoc (le_bytes 8 c) (flat (map prefixed ps)) r) ∙ e ∙ append_assoc (le_bytes 8 c) (flat (map prefixed qs)) s)).1

-- ---- a message determines its fields

-- a number fits its 8 bytes
abbrev pub Fits8 : ℕ → Type 0
Fits8 x = x < 2 ^ 64

short-number : (x : ℕ) → Short (le_bytes 8 x)
short-number x = rw length-le_bytes (omega arith)

-- ---- of a node

-- the parts of a node message
abbrev parts_of_node : List ℕ → ℕ → List ℕ → List ℕ → List (List ℕ)
parts_of_node domain level l r = node_label ∷ domain ∷ le_bytes 8 level ∷ l ∷ r ∷ []

node_parts : (domain : List ℕ) (level : ℕ) (l r domain' : List ℕ) (level' : ℕ) (l' r' : List ℕ)
    → AllShort (domain ∷ l ∷ r ∷ []) → AllShort (domain' ∷ l' ∷ r' ∷ [])
    → node_message domain level l r ≡ node_message domain' level' l' r' → parts_of_node domain level l r ≡ parts_of_node domain' level' l' r'
unfolding node_message serialize_parts node_label
node_parts domain level l r domain' level' l' r' h h' e =
    (prefix_determines 5 (parts_of_node domain level l r) (parts_of_node domain' level' l' r') [] [] refl
    (omega arith, (h.0, (short-number level, h.1))) (omega arith, (h'.0, (short-number level', h'.1)))
    (append-nil (node_message domain level l r) ∙ e ∙ sym (append-nil (node_message domain' level' l' r')))).0

-- every field
pub node_message_determines : (domain : List ℕ) (level : ℕ) (l r domain' : List ℕ) (level' : ℕ) (l' r' : List ℕ)
    → AllShort (domain ∷ l ∷ r ∷ []) → AllShort (domain' ∷ l' ∷ r' ∷ []) → Fits8 level → Fits8 level'
    → node_message domain level l r ≡ node_message domain' level' l' r' → (domain ≡ domain') × (level ≡ level') × (l ≡ l') × (r ≡ r')
node_message_determines domain level l r domain' level' l' r' h h' f f' e =
    let p = node_parts domain level l r domain' level' l' r' h h' e in
    (ap (λ ps. get_or ps 1 []) p, le_bytes_determine 8 level level' f f' (ap (λ ps. get_or ps 2 []) p), ap (λ ps. get_or ps 3 []) p, ap (λ ps. get_or ps 4 []) p)

-- the two digests, under one domain and at one level
pub node_message_determines_digests : (domain : List ℕ) (level : ℕ) (l r l' r' : List ℕ) → Short domain
    → length l ≡ 32 → length r ≡ 32 → length l' ≡ 32 → length r' ≡ 32
    → node_message domain level l r ≡ node_message domain level l' r' → (l ≡ l') × (r ≡ r')
node_message_determines_digests domain level l r l' r' hd hl hr hl' hr' e =
    let p = node_parts domain level l r domain level l' r' (hd, (omega arith, (omega arith, tt))) (hd, (omega arith, (omega arith, tt))) e in
    (ap (λ ps. get_or ps 3 []) p, ap (λ ps. get_or ps 4 []) p)

-- ---- of a group

-- every field
pub leaf_message_determines : (domain : List ℕ) (count width group : ℕ) (values domain' : List ℕ) (count' width' group' : ℕ) (values' : List ℕ)
    → Short domain → Fits8 count → Fits8 width → Fits8 group → AllBelow (2 ^ 128) values
    → Short domain' → Fits8 count' → Fits8 width' → Fits8 group' → AllBelow (2 ^ 128) values'
    → leaf_message domain count width group values ≡ leaf_message domain' count' width' group' values'
    → (domain ≡ domain') × (count ≡ count') × (width ≡ width') × (group ≡ group') × (values ≡ values')
unfolding leaf_message leaf_prefix leaf_rest leaf_label words_bytes
leaf_message_determines domain count width group values domain' count' width' group' values' hd hc hw hg hv hd' hc' hw' hg' hv' e =
    let d = prefix_determines 5 (leaf_label ∷ domain ∷ le_bytes 8 count ∷ le_bytes 8 width ∷ []) (leaf_label ∷ domain' ∷ le_bytes 8 count' ∷ le_bytes 8 width' ∷ [])
    (le_bytes 8 width ++ (le_bytes 8 group ++ (le_bytes 8 (16 * width) ++ words_bytes values)))
    (le_bytes 8 width' ++ (le_bytes 8 group' ++ (le_bytes 8 (16 * width') ++ words_bytes values'))) refl
    (omega arith, (hd, (short-number count, (short-number width, tt)))) (omega arith, (hd', (short-number count', (short-number width', tt))))
    (simp append_assoc at e) in
    let w = le_bytes-append_determines 8 width width' _ _ d.1 in
    let g = le_bytes-append_determines 8 group group' _ _ w.1 in
    let v = le_bytes-append_determines 8 (16 * width) (16 * width') _ _ g.1 in (
      ap (λ ps. get_or ps 1 []) d.0,
      le_bytes_determine 8 count count' hc hc' (ap (λ ps. get_or ps 2 []) d.0),
      le_bytes_determine 8 width width' hw hw' w.0,
      le_bytes_determine 8 group group' hg hg' g.0,
      numbers_determine 16 values values' (omega arith) hv hv' v.1,
    )

-- the values, in one tree and at one group
pub leaf_message_determines_values : (domain : List ℕ) (count width group : ℕ) (values values' : List ℕ) → AllBelow (2 ^ 128) values → AllBelow (2 ^ 128) values'
    → leaf_message domain count width group values ≡ leaf_message domain count width group values' → values ≡ values'
unfolding leaf_message leaf_rest words_bytes
leaf_message_determines_values domain count width group values values' hv hv' e =
    let front : List ℕ = le_bytes 8 width ++ le_bytes 8 group ++ le_bytes 8 (16 * width) in
    let prefix : List ℕ = leaf_prefix domain count width in
    let rest = append_determines prefix prefix (front ++ words_bytes values) (front ++ words_bytes values') refl e in
    numbers_determine 16 values values' (omega arith) hv hv' (append_determines front front (words_bytes values) (words_bytes values') refl rest.1).1

-- no leaf message is a node message
pub leaf-is_no_node : (domain : List ℕ) (count width group : ℕ) (values domain' : List ℕ) (level : ℕ) (l r : List ℕ)
    → leaf_message domain count width group values ≡ node_message domain' level l r → ⊥
unfolding leaf_message leaf_prefix node_message serialize_parts serialize_prefix flat leaf_label node_label
leaf-is_no_node domain count width group values domain' level l r e =
    let d = le_bytes-append_determines 8 5 5 _ _ (simp append_assoc at e) in
    let f = prefixed_determines leaf_label node_label _ _ (omega arith) (omega arith) d.1 in
    let n : ◌≡◌ {A = ℕ} 17 16 = ap length f.0 in
    omega arith
