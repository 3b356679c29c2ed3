use Rattle.std.proofs.Common.{rules, sym, ◌∙◌}
use Rattle.gimli_base.proofs.RefWidths.{address_is_none, word_is_none, reference_is_none}
use Rattle.gimli_base.proofs.step.Step.push.Goals.{in-Address, in-Word, in-Reference}
use Rattle.gimli_base.proofs.step.Step.push.Goals as goal

pub returns : goal.returns
returns c = elim c.match-width-2.branch [
  | in-Address w ↦ record {
    pushed = λ _. record {
      counted = search rules;
      well_formed = search rules;
      size = search rules;
      no_ref8 = λ none. (search rules, address_is_none c.args.specification.now (search rules));
    };
    no_sibling = search rules;
    kept = search rules;
  }
  | in-Word w ↦ record {
    pushed = λ _. record {
      counted = search rules;
      well_formed = search rules;
      size = search rules;
      no_ref8 = λ none. (search rules, word_is_none c.args.specification.now (search rules));
    };
    no_sibling = search rules;
    kept = search rules;
  }
  | in-Reference w ↦ record {
    pushed = λ _. record {
      counted = search rules;
      well_formed = search rules;
      size = search rules;
      no_ref8 = λ none. (search rules, reference_is_none c.args.specification.now (search rules));
    };
    no_sibling = search rules;
    kept = search rules;
  }
]
