use Rattle.elm_meaning.proofs.Forms.{of_anything, of_name, of_literal, of_made, of_nil, of_cons, of_tuple, of_fields, of_named}
use Rattle.elm_meaning.proofs.term_laws.patterns_stand_form_by_form.Goals as goal

pub returns : goal.returns
returns c = record {
  anything = of_anything;
  name = of_name;
  literal = of_literal;
  made = of_made;
  nil = of_nil;
  cons = of_cons;
  tuple = of_tuple;
  fields = of_fields;
  named = of_named;
}
