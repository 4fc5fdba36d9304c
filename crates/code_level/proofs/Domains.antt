-- A level's domain, put part after part; its length; and what its entry's questions, all answered yes, say.
use Prim.Native.Nat.{ℕ, ◌+◌, ◌-◌, ◌/◌, ◌%◌, ◌<◌, ◌≤◌}
use mathlib.Core.Path.{◌≡◌, refl, sym, ◌∙◌}
use mathlib.Core.Bool.{false}
use Rattle.std.specs.Prelude.{Ok, Err}
use mathlib.Core.List.{List, ◌++◌}
use native.Mathlib.Omega.{arith}
use native.Mathlib.Numerals.{add-one}
use borrow.Author.Tests.{leb-true, eqb-true, ne_eqb, le-leb, lt-leb}
use lib.Dec.{eqb}
use lib.ListN.{length, set, length-append}
use Rattle.theory_laws.proofs.Questions.{all_yes, eqb_iff}
use Rattle.theory_laws.proofs.Lists.{stored-nil, stored-cons, stored-all}
use Rattle.bytes_numbers.specs.helpers.Put.{Put}
use Rattle.bytes_numbers.proofs.Stores.{then_put, same_put}
use Rattle.theory_record.specs.Domain.{digit, decimal, level_mark, level_domain}
use Rattle.theory_record.proofs.Domain.{decimal-one, decimal-two}
use Rattle.theory_laws.specs.declared.Refusal.TheVariants as no
use Rattle.code_level.specs.Domain.{domain_questions, domain_number, length_number, domain_length_of, length_answer}

pub one-digit : (o : List ℕ) (from x v : ℕ) → x < 10 → v ≡ digit x → Put o from (length (decimal x)) (decimal x) (set o from v) (from + 1)
one-digit o from x v h e = rw (decimal-one x h, e) (record { bytes = rw (stored-cons, stored-nil); size = refl; end = refl })

pub two_digits : (o : List ℕ) (from x u v : ℕ) → 10 ≤ x → x < 100 → u ≡ digit (x / 10) → v ≡ digit (x % 10)
    → Put o from (length (decimal x)) (decimal x) (set (set o from u) (from + 1) v) (from + 2)
two_digits o from x u v g h e f = rw (decimal-two x g h, e, f, add-one) (record { bytes = rw (stored-cons, stored-cons, stored-nil); size = refl; end = refl })

pub domain_put : (o base o1 : List ℕ) (i : ℕ) (o2 : List ℕ) (j l : ℕ) (o3 : List ℕ) (r : ℕ)
    → Put o 0 (length base) base o1 i → Put o1 i 7 level_mark o2 j → Put o2 j (length (decimal l)) (decimal l) o3 r
    → Put o 0 (length (level_domain base l)) (level_domain base l) o3 r
unfolding level_domain
domain_put o base o1 i o2 j l o3 r a b c =
    same_put o 0 _ (length (level_domain base l)) _ (level_domain base l) o3 r
    (sym (length-append (base ++ level_mark) (decimal l) ∙ omega (arith, length-append base level_mark))) refl
    (then_put o 0 _ _ o2 j _ _ o3 r (then_put o 0 _ _ o1 i 7 _ o2 j a b) c)

-- ---- lengths

pub one-digit-long : (x : ℕ) → x < 10 → 1 ≡ length (decimal x)
one-digit-long x h = rw (decimal-one x h)

pub two-digits-long : (x : ℕ) → 10 ≤ x → x < 100 → 2 ≡ length (decimal x)
two-digits-long x g h = rw (decimal-two x g h)

module _ (base : List ℕ) (l : ℕ) where
  pub domain-long : length (level_domain base l) ≡ length base + 7 + length (decimal l)
  unfolding level_domain
  domain-long = rw (length-append, length-append) (omega arith)

  -- a lent length, asked by what stands behind the base domain
  pub not_so_long : (out digits : ℕ) → digits ≡ length (decimal l) → out < 7 + digits → false ≡ eqb out (length (level_domain base l))
  not_so_long out digits e h = sym (ne_eqb _ _ (λ (z : out ≡ length (level_domain base l)). omega (arith, domain-long)))

  pub so_long : (out digits : ℕ) → digits ≡ length (decimal l) → 7 + digits ≤ out
      → eqb (out - (7 + digits)) (length base) ≡ eqb out (length (level_domain base l))
  so_long out digits e h =
      eqb_iff (out - (7 + digits)) (length base) out (length (level_domain base l)) (λ z. omega (arith, domain-long)) (λ z. omega (arith, domain-long))

-- ---- the entries

module _ (base : List ℕ) (l : ℕ) where
  pub length-level : 20 < l → length_answer (Err no.Parameters) ≡ domain_length_of base l
  unfolding length_number
  length-level h = rw (lt-leb l 20 h)

  pub length_base : l ≤ 20 → 200 < length base → length_answer (Err no.Domain) ≡ domain_length_of base l
  unfolding length_number
  length_base h b = rw (le-leb l 20 h, lt-leb (length base) 200 b)

  pub length-done : (digits : ℕ) → l ≤ 20 → length base ≤ 200 → digits ≡ length (decimal l)
      → length_answer (Ok (length base + 7 + digits)) ≡ domain_length_of base l
  unfolding length_number
  length-done digits h b e = rw (le-leb l 20 h, le-leb (length base) 200 b, e, domain-long base l)

pub record DomainFits (base : List ℕ) (l out : ℕ) : Type 0 where
  pub level-le : l ≤ 20
  pub out_is : out ≡ length (level_domain base l)

pub domain-fits : (base : List ℕ) (l out q : ℕ) → q ≡ domain_number base l out → q ≡ 0 → DomainFits base l out
unfolding domain_number
domain-fits base l out q e z =
    let y = all_yes (domain_questions base l out) tt (sym e ∙ z) in
    record { level-le = leb-true l 20 y.0; out_is = eqb-true _ _ y.1.0 }

-- put into a buffer of its length, the domain is all of it
pub domain-fills : (o base : List ℕ) (l : ℕ) (o' : List ℕ) (r : ℕ) → DomainFits base l (length o)
    → Put o 0 (length (level_domain base l)) (level_domain base l) o' r → o' ≡ level_domain base l
domain-fills o base l o' r f p = p.bytes ∙ stored-all o (level_domain base l) (sym f.out_is)
