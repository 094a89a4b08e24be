mod OneMoteLemmas
