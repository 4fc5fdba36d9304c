-- `export_tail_entries::codeword` meets its contract.
use mathlib.Core.Path.{refl, sym, ap, ◌∙◌}
use mathlib.Core.List.{List}
use Prim.Native.Nat.{ℕ, ◌+◌, ◌*◌, ◌≤◌}
use native.Mathlib.Omega.{arith}
use Rattle.theory_laws.specs.Table.{tab, at}
use Rattle.export_tail_entries.proofs.Padded.{length_blank, length_front, padded}
use Rattle.export_tail_entries.proofs.Input.{power_small, product_small}
use Rattle.export_tail_entries.proofs.codeword.Goals as goal

pub overflow_mul-o : goal.overflow_mul-o
overflow_mul-o c =
    omega (arith, power_small {e = c.args.n + c.args.k} (omega arith))

pub slice_bounds-table-end : goal.slice_bounds-table-end
slice_bounds-table-end c =
    omega (arith, power_small {e = c.args.n} (omega arith), length_blank _ c.blank-table.ensures)

pub slice_bounds-encode_input-end : goal.slice_bounds-encode_input-end
slice_bounds-encode_input-end c =
    sym (length_front _ _ (omega (arith, power_small {e = c.args.n} (omega arith))) c.blank-table.ensures)

pub slice_bounds-gammas-end : goal.slice_bounds-gammas-end
slice_bounds-gammas-end c =
    omega (arith, product_small c.args.n c.args.k c.requires.n+k≤, length_blank _ c.blank-gammas.ensures)

pub slice_bounds-encode_input-end-2 : goal.slice_bounds-encode_input-end-2
slice_bounds-encode_input-end-2 c =
    sym (length_front _ _ (omega (arith, product_small c.args.n c.args.k c.requires.n+k≤)) c.blank-gammas.ensures)

pub slice_bounds-out-end : goal.slice_bounds-out-end
slice_bounds-out-end c =
    omega (arith, power_small {e = c.args.n + c.args.k} (omega arith), length_blank _ c.blank-out.ensures)

pub slice_bounds-encode_input-end-3 : goal.slice_bounds-encode_input-end-3
slice_bounds-encode_input-end-3 c =
    sym (length_front _ _ (omega (arith, power_small {e = c.args.n + c.args.k} (omega arith))) c.blank-out.ensures)

pub encode_input-requires : goal.encode_input-requires
encode_input-requires c =
    let a = c.args in let p = c.requires in (
      p,
      record {
        rows = length_front _ _ (omega (arith, power_small {e = a.n} (omega arith))) c.blank-table.ensures
            ∙ ap (◌*◌ 2) c.power-t.ensures;
        factors = length_front _ _ (omega (arith, product_small a.n a.k p.n+k≤)) c.blank-gammas.ensures;
        entries = length_front _ _ (omega (arith, power_small {e = a.n + a.k} (omega arith))) c.blank-out.ensures
            ∙ ap (◌*◌ 2) c.power-o.ensures;
      },
    )

pub returns : goal.returns
returns c =
    let a = c.args in let small : 2 * c.power-o.result ≤ 512 = omega (arith, power_small {e = a.n + a.k} (omega arith)) in
    padded c.power-o.result (2 * c.power-o.result) c.encode_input.new.out c.blank-out.result refl (omega arith)
    (c.encode_input.auto.out ∙ length_front _ _ small c.blank-out.ensures) c.blank-out.ensures
    ∙ ap (λ (x : List ℕ). tab 256 (at x)) c.encode_input.ensures
