use Rattle.std.proofs.Common.{◌≡◌, sym, subst, List, ℕ, Ok, Err}
use Rattle.std.specs.List.{insert}
use Rattle.std.specs.List.Sorted.{IsBinarySearchResult}
use Rattle.std.specs.Ordering.{nat_cmp}
use Rattle.weak_determinise.specs.inner.Numbers.{PutsIn}
use Rattle.weak_determinise.proofs.Rising.{there, put_at}
use Rattle.weak_determinise.proofs.numbers.put_place.Goals as goal

pub returns-in-Ok : goal.returns-in-Ok
returns-in-Ok c = there c.args.place c.args.places.now.items c.requires c.in-Ok.field-0
    (subst (λ (s : List ℕ). IsBinarySearchResult (λ y. nat_cmp y c.args.place) s (Ok c.in-Ok.field-0))
    c.deref.ensures.value c.in-Ok.ensures.position)

pub returns-in_ok-insert-in-Err : goal.returns-in_ok-insert-in-Err
returns-in_ok-insert-in-Err c =
    let kept : c.insert.new.self.items ≡ insert c.args.places.now.items c.in-Err.at c.args.place =
    c.in_ok-insert-in-Err.ensures.items in
    subst (λ (s : List ℕ). PutsIn c.args.place c.args.places.now.items s) (sym kept)
    (put_at c.args.place c.args.places.now.items c.requires c.in-Err.at
    (subst (λ (s : List ℕ). IsBinarySearchResult (λ y. nat_cmp y c.args.place) s (Err c.in-Err.at))
    c.deref.ensures.value c.in-Err.ensures.position))
